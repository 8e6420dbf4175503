-- A least step told as a number: `told_at` and `told_none` say what it tells, `told-least` that of an admitted table it is demand 2's search; and
-- what a finder's answer says of the admission, `admitted-is`.
-- Assumes nothing.
use Rattle.ground.specs.Least.{Step}
use Rattle.ground.proofs.Kit.{ℕ, ◌+◌, ◌≤◌, ◌<◌, true, false, List, ◌≡◌, refl, ap, arith, eq-eqb, ne_eqb, Ok, Err, Some, None}
use lib.Dec.{lit<}
use Rattle.kinds.specs.declared.Task.{Task}
use Rattle.kinds.specs.declared.Settings.{Settings}
use Rattle.kinds.specs.declared.Refusal.{Refusal}
use Rattle.kinds.specs.declared.Refusal.TheVariants.{NoStepPasses}
use Rattle.kinds.specs.Answer.{accepted, refused, handed, step_of, Answer, Verdict}
use Rattle.kinds.specs.Refusal.{number_of}
use Rattle.kinds.specs.Limits.{most_tasks}
use Rattle.kinds.specs.Policy.{meant, is_first_fit}
use Rattle.kinds.specs.Task.{at}
use Rattle.kinds.proofs.Answers.{handed-one}
use Rattle.kinds.proofs.Refusals.{refusal-numbered}
use Rattle.share.proofs.Tables.{all-good, full-most}
use Rattle.policy.specs.Under.{rows_under, full_under, loads_under, least_under}
use Rattle.policy.proofs.Demand.{step-at}
use Rattle.policy.proofs.Under.{least-under-same}
use Rattle.admission.specs.Admission.{admission}
use Rattle.admission.proofs.Chain.{Unlike, admission-serves, admission-unlike}
use Rattle.admission.proofs.Gated.{answer-same}
use Rattle.outcome.specs.Plan.{decided, found}
use Rattle.outcome.proofs.Found.{accepting}
use Rattle.relief.specs.Relief.{told_step, least_told, admitted_by}

-- a refusal is told as 0
pub refused-told : (r : Refusal) → told_step (refused 0 r) ≡ 0
refused-told r = rw (ne_eqb (number_of r) 0 (λ e. omega (arith, refusal-numbered r)))

-- a step as a number, and none as 0
abbrev pub told : Step → ℕ
told (Some k) = k + 1
told None = 0

-- what is told of a decision
decided-told : (step : Step) → told_step (decided (Ok tt) step) ≡ told step
decided-told (Some k) = refl
decided-told None = refl

decided-at : (a : Verdict) (step : Step) (k : ℕ) → told_step (decided a step) ≡ k + 1 → decided a step ≡ accepted k
decided-at (Err r) step k e = absurd (omega (arith, refused-told r))
decided-at (Ok _) (Some j) k e = let q : j ≡ k = omega arith in ap accepted q
decided-at (Ok _) None k e = absurd (omega arith)

decided-none : (a : Verdict) (step : Step) → (a ≡ (Ok tt) → ⊥) → told_step (decided a step) ≡ 0
decided-none (Err r) step h = refused-told r
decided-none (Ok _) step h = absurd (h refl)

module _ (s : Settings) (rows : List Task) (n : ℕ) where
  -- k + 1 tells that the plain finder accepts at step k
  pub told_at : (k : ℕ) → least_told s rows n ≡ k + 1 → found true s rows n n ≡ accepted k
  unfolding least_told found
  told_at k e = decided-at (admission true s rows n n) (least_under s rows n) k e

  -- and 0 that it refuses
  pub told_none : least_told s rows n ≡ 0 → (found true s rows n n).number ≡ 0 → ⊥
  unfolding least_told
  told_none e z = let q = rw (eq-eqb (found true s rows n n).number 0 z) at e in omega (arith, q)

  -- of an admitted table it is demand 2's least step
  pub told-least : admission true s rows n n ≡ (Ok tt) → least_told s rows n ≡ told (least_under s rows n)
  unfolding least_told found
  told-least a = rw a (decided-told (least_under s rows n))

  pub told-refused : (admission true s rows n n ≡ (Ok tt) → ⊥) → least_told s rows n ≡ 0
  unfolding least_told found
  told-refused h = decided-none (admission true s rows n n) (least_under s rows n) h

  module _ (room : ℕ) where
    -- and so is what an answer for any room tells of an admitted table
    pub told-roomy : admission true s rows n room ≡ (Ok tt) → told_step (found true s rows n room) ≡ told (least_under s rows n)
    unfolding found
    told-roomy a = rw a (decided-told (least_under s rows n))

    -- a finder's answer comes of a table that the admission admits, or is its refusal
    pub admitted-is : (x : Answer) → handed x ≡ found true s rows n room → admitted_by x ≡ admission true s rows n room
    unfolding found
    admitted-is x e = by (admission true s rows n room) (least_under s rows n) (admission-unlike true s rows n room) e
      where
        by : (a : Verdict) (step : Step) → Unlike 7 a → handed x ≡ decided a step → admitted_by x ≡ a
        by (Err r) step other e =
            rw (handed-one x (Err r) e, ne_eqb (number_of r) 7 other)
        by (Ok _) (Some k) other e = rw (handed-one x (Ok k) e)
        by (Ok _) None other e = rw (handed-one x (Err NoStepPasses) e)

    -- where policy 4 is not asked, a finder that does not serve it finds the same
    pub found-serves : is_first_fit (meant s.policy) ≡ false → found true s rows n room ≡ found false s rows n room
    unfolding found
    found-serves f = rw (admission-serves s rows n room f)

    -- 32 bits hold the step, and the step + 1
    pub step-low : (x : Answer) → handed x ≡ found true s rows n room → step_of x < 4294967295
    step-low (Err r) e = lit< tt
    step-low (Ok k) e =
        let g = accepting true s rows n room k e in
        let within = (step-at (meant s.policy) s.m (loads_under s rows n) n (full_under s rows n) k g.step).within in
        let full = full-most (rows_under s rows n) n (all-good s.swap s.notch rows n g.ready.none-bad) in
        omega (arith, within, full)

-- two tables that agree on the first n records are told alike; where n is too large, any two are
module _ (s : Settings) (xs ys : List Task) (n : ℕ) (same : n ≤ most_tasks → (i : ℕ) → i < n → at xs i ≡ at ys i) where
  pub found-agrees : (room : ℕ) → found true s xs n room ≡ found true s ys n room
  unfolding found
  found-agrees room = answer-same decided (λ r x y. refl) true s xs ys n room _ _ same (λ e. least-under-same s xs ys n e)

  pub told-agrees : least_told s xs n ≡ least_told s ys n
  unfolding least_told
  told-agrees = ap told_step (found-agrees n)
