-- "Given exactly when", of the checker of filled sheets: `check-exactly`, whatever it reads; the numbers that it gives are `check-numbers`.
-- Assumes nothing.
use Rattle.ground.proofs.Kit.{ℕ, ◌≤◌, List, [], ◌∷◌, ◌++◌, ◌≡◌, refl, ◌∙◌, ap}
use Rattle.kinds.specs.declared.Sheet.{Sheet}
use Rattle.kinds.specs.Answer.{Handed, NumberAndPlace, accepted, refused, unrefused}
use Rattle.kinds.specs.Limits.{most_tasks}
use Rattle.kinds.specs.Chain.{first_by, handed_by, Exactly, numbers_given}
use Rattle.kinds.proofs.Chains.{exactly, first_then, not-most}
use Rattle.sheet.specs.Reading.{no_sheet, sheet_in}
use Rattle.sheet.specs.Chain.{reader_chain}
use Rattle.sheet.proofs.Exactly.{reader-chain}
use Rattle.fill.specs.Results.{with_plan}
use Rattle.fill.specs.Chain.{step_for, planned_chain}
use Rattle.fill.proofs.Exactly.{unrefused-chain, rest-only, asked-few, read-few}
use Rattle.filled_sheet.specs.Checked.{first_differing, compared, checked_sheet, checked}
use Rattle.filled_sheet.specs.Chain.{compared_chain, check_chain}

-- the results are compared by 18 and then 19
compared-chain : (x due : Sheet) → compared x due ≡ handed_by tt tt (compared_chain x due)
unfolding compared first_by
compared-chain x due = rw (← not-most x.table.n x.results.n, ← not-most x.table.n (first_differing x due))

-- each exactly when its sentence holds first
pub compared-exactly : (x due : Sheet) → Exactly (compared_chain x due) tt tt (compared x due)
compared-exactly x due = exactly (compared_chain x due) tt tt (compared x due) (compared-chain x due)

pub compared-numbers : (x due : Sheet) → numbers_given (compared_chain x due) ≡ 18 ∷ 19 ∷ []
compared-numbers x due = refl

-- a sheet that reads: the plain finder's refusals, and then the results
sheet-chain : (x : Sheet) → x.table.n ≤ most_tasks → checked_sheet x ≡ handed_by tt tt (planned_chain x ++ compared_chain x (with_plan x (step_for x)))
unfolding checked_sheet
sheet-chain x few =
    let held : ℕ → NumberAndPlace = λ k. compared x (with_plan x k) in
    let due = with_plan x (step_for x) in
    ap (λ (h : Handed ℕ). unrefused tt h held) (asked-few x few)
    ∙ (unrefused-chain tt 0 (step_for x) held (planned_chain x)
    ∙ (ap (λ (last : NumberAndPlace). first_by (refused tt) last (planned_chain x)) (compared-chain x due)
    ∙ first_then (refused tt) (accepted tt) (planned_chain x) (compared_chain x due)))

module _ (s : List ℕ) where
  -- the checker is its chain
  check-chain : checked s ≡ handed_by tt tt (check_chain s)
  unfolding checked
  check-chain =
      let x = sheet_in s in
      let chain = planned_chain x ++ compared_chain x (with_plan x (step_for x)) in
      ap (λ (h : Handed Sheet). unrefused tt h checked_sheet) (reader-chain s)
      ∙ (unrefused-chain tt no_sheet x checked_sheet (reader_chain s)
      ∙ (rest-only (refused tt) (checked_sheet x) (handed_by tt tt chain) (reader_chain s) (λ none. sheet-chain x (read-few s none))
      ∙ first_then (refused tt) (accepted tt) (reader_chain s) chain))

  -- the reader's numbers from the left, then the plain finder's, then 18 and 19 are given exactly when their sentences hold first
  pub check-exactly : Exactly (check_chain s) tt tt (checked s)
  check-exactly = exactly (check_chain s) tt tt (checked s) check-chain

  -- "Reader and finder refusals come first, then 18 .., then 19"
  pub check-numbers : numbers_given (check_chain s) ≡ 8 ∷ 9 ∷ 8 ∷ 3 ∷ 8 ∷ 10 ∷ 8 ∷ 11 ∷ 1 ∷ 15 ∷ 2 ∷ 6 ∷ 7 ∷ 18 ∷ 19 ∷ []
  check-numbers = refl
