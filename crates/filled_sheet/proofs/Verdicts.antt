-- No second answer meets the promise of `check`, nor that of `check_plan`.
-- Assumes nothing.
use Rattle.ground.proofs.Kit.{ℕ, List, ◌≡◌, sym, ◌∙◌}
use Rattle.kinds.specs.declared.Sheet.{Sheet}
use Rattle.kinds.specs.Answer.{handed_verdict, Verdict}
use Rattle.kinds.proofs.Answers.{verdict-one}
use Rattle.fill.specs.declared.SheetPlan.{SheetPlan}
use Rattle.filled_sheet.specs.Checked.{checked_by, checked}

pub check-one : (s : List ℕ) (v w : Verdict) → handed_verdict v ≡ checked s → handed_verdict w ≡ checked s → v ≡ w
check-one s v w e f = verdict-one v w (e ∙ sym f)

pub plan-check-one : (x : Sheet) (p : SheetPlan) (v w : Verdict) → handed_verdict v ≡ checked_by x p → handed_verdict w ≡ checked_by x p → v ≡ w
plan-check-one x p v w e f = verdict-one v w (e ∙ sym f)
