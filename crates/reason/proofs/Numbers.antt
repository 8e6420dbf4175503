-- A number tells one reason, `reason-one` and `wide-reason-one`; and 0 tells that the record is good, `zero-good` and `wide-zero-good`.
-- Assumes nothing.
use Rattle.ground.proofs.Kit.{ℕ, ◌≤◌, true, ◌≡◌, refl, sym, ◌∙◌, ap, eqb, Option, Some, None}
use Rattle.ground.specs.Choice.{pick}
use Rattle.kinds.specs.declared.Task.{Task}
use Rattle.kinds.specs.Task.{is_good}
use Rattle.wide_task.specs.declared.WideTask.{WideTask}
use Rattle.wide_task.specs.WideTask as wide-task
use Rattle.reason.specs.declared.Reason.{Reason}
use Rattle.reason.specs.declared.Reason.TheVariants.{NoCost, CostAboveTmin, TminAboveTmax, TmaxTooLong, ElasticityTooGreat, NoNotch, TminOffNotch, TmaxOffNotch}
use Rattle.reason.specs.declared.WideReason as wide
use Rattle.reason.specs.Reason.{reason_of, reason_number}
use Rattle.reason.specs.WideReason.{wide_reason_of, wide_reason_number}
use Rattle.reason.proofs.Reasons.{good-reason, reason-good}
use Rattle.reason.proofs.WideReasons.{wide-good-reason, wide-reason-good}

-- from its number a reason can be had back
again : ℕ → Option Reason
again number =
    pick (eqb number 0) None
    (pick (eqb number 1) (Some NoCost)
    (pick (eqb number 2) (Some CostAboveTmin)
    (pick (eqb number 3) (Some TminAboveTmax)
    (pick (eqb number 4) (Some TmaxTooLong)
    (pick (eqb number 5) (Some ElasticityTooGreat)
    (pick (eqb number 6) (Some TminOffNotch)
    (pick (eqb number 7) (Some TmaxOffNotch) (Some NoNotch))))))))

again-is : (r : Option Reason) → again (reason_number r) ≡ r
unfolding again
again-is None = refl
again-is (Some NoCost) = refl
again-is (Some CostAboveTmin) = refl
again-is (Some TminAboveTmax) = refl
again-is (Some TmaxTooLong) = refl
again-is (Some ElasticityTooGreat) = refl
again-is (Some TminOffNotch) = refl
again-is (Some TmaxOffNotch) = refl
again-is (Some NoNotch) = refl

pub reason-one : (r s : Option Reason) → reason_number r ≡ reason_number s → r ≡ s
reason-one r s e = sym (again-is r) ∙ (ap again e ∙ again-is s)

-- the same of several cores
wide-again : ℕ → Option wide.WideReason
wide-again number =
    pick (eqb number 0) None
    (pick (eqb number 1) (Some wide.TheVariants.NoSpan)
    (pick (eqb number 2) (Some wide.TheVariants.SpanNotBelowTmin)
    (pick (eqb number 3) (Some wide.TheVariants.SpanNotBelowCost)
    (pick (eqb number 4) (Some wide.TheVariants.CostNotAboveTmax)
    (pick (eqb number 5) (Some wide.TheVariants.CostTooGreat)
    (pick (eqb number 6) (Some wide.TheVariants.TminAboveTmax)
    (pick (eqb number 7) (Some wide.TheVariants.TmaxTooLong) (Some wide.TheVariants.ElasticityTooGreat))))))))

wide-again-is : (r : Option wide.WideReason) → wide-again (wide_reason_number r) ≡ r
unfolding wide-again
wide-again-is None = refl
wide-again-is (Some wide.TheVariants.NoSpan) = refl
wide-again-is (Some wide.TheVariants.SpanNotBelowTmin) = refl
wide-again-is (Some wide.TheVariants.SpanNotBelowCost) = refl
wide-again-is (Some wide.TheVariants.CostNotAboveTmax) = refl
wide-again-is (Some wide.TheVariants.CostTooGreat) = refl
wide-again-is (Some wide.TheVariants.TminAboveTmax) = refl
wide-again-is (Some wide.TheVariants.TmaxTooLong) = refl
wide-again-is (Some wide.TheVariants.ElasticityTooGreat) = refl

pub wide-reason-one : (r s : Option wide.WideReason) → wide_reason_number r ≡ wide_reason_number s → r ≡ s
wide-reason-one r s e = sym (wide-again-is r) ∙ (ap wide-again e ∙ wide-again-is s)

-- 0 is told of a good record
pub good-zero : (w q : ℕ) (t : Task) → 1 ≤ q → is_good w q t ≡ true → reason_number (reason_of w q t) ≡ 0
good-zero w q t one g = ap reason_number (good-reason w q t one g)

-- and of no other
pub zero-good : (w q : ℕ) (t : Task) → reason_number (reason_of w q t) ≡ 0 → is_good w q t ≡ true
zero-good w q t e = reason-good w q t (reason-one (reason_of w q t) None e)

pub wide-good-zero : (t : WideTask) → wide-task.is_good t ≡ true → wide_reason_number (wide_reason_of t) ≡ 0
wide-good-zero t g = ap wide_reason_number (wide-good-reason t g)

pub wide-zero-good : (t : WideTask) → wide_reason_number (wide_reason_of t) ≡ 0 → wide-task.is_good t ≡ true
wide-zero-good t e = wide-reason-good t (wide-reason-one (wide_reason_of t) None e)
