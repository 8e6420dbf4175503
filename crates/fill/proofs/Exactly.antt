-- "Given exactly when", of the program: `program-exactly`, whatever it reads; the numbers that it gives are `program-numbers`.
-- Assumes nothing.
use Rattle.ground.proofs.Kit.{ℕ, ◌≤◌, List, [], ◌∷◌, ◌≡◌, refl, sym, ◌∙◌, ap, arith, ltb, le-ltb, ltb-false}
use Rattle.kinds.specs.declared.Sheet.{Sheet}
use Rattle.kinds.specs.declared.Refusal.{Refusal}
use Rattle.kinds.specs.declared.Refusal.TheVariants.{TooManyTasks}
use Rattle.kinds.specs.Answer.{Handed, accepted, refused, unrefused}
use Rattle.kinds.specs.Limits.{most_tasks}
use Rattle.kinds.specs.Chain.{Check, ◌when◌, first_by, handed_by, NoneHolds, Exactly, numbers_given}
use Rattle.kinds.proofs.Chain.{comes-first}
use Rattle.kinds.proofs.Chains.{by_chain, none_first, given-first, exactly, first-through, first_then, first-without}
use Rattle.admission.specs.Chain.{settings_chain, record_check}
use Rattle.outcome.specs.Chain.{step_check}
use Rattle.plain_finder.specs.Asked.{asked}
use Rattle.plain_finder.proofs.Exactly.{asked-chain}
use Rattle.sheet.specs.Reading.{task_count, no_sheet, sheet_in}
use Rattle.sheet.specs.Chain.{reader_chain}
use Rattle.sheet.proofs.Exactly.{reader-chain}
use Rattle.writer.specs.Encode.{encode}
use Rattle.fill.specs.Results.{with_plan}
use Rattle.fill.specs.Fill.{planned_sheet, planned}
use Rattle.fill.specs.Chain.{step_for, planned_chain, program_chain}

-- what comes of an answer that is a chain's: its refusals, and else the rest
pub unrefused-chain : {A B : Type 0} (nothing : B) (none value : A) (rest : A → Handed B) (chain : List Check)
    → unrefused nothing (handed_by none value chain) rest ≡ first_by (refused nothing) (rest value) chain
unrefused-chain {A} {B} nothing none value rest chain =
    let refuses : (λ (r : Refusal). unrefused nothing (refused none r) rest) ≡ refused nothing =
    λ i r. sym (comes-first nothing (refused none r) rest none r refl) i in
    first-through (λ h. unrefused nothing h rest) (refused none) (accepted value) chain
    ∙ ap (λ (refuse : Refusal → Handed B). first_by refuse (rest value) chain) refuses

-- the rest of a chain is asked only where none of its sentences holds
pub rest-only : {A : Type 0} (refuse : Refusal → A) (a b : A) (chain : List Check) → (NoneHolds chain → a ≡ b) → first_by refuse a chain ≡ first_by refuse b chain
rest-only refuse a b chain same =
    by_chain chain
    (λ none. none_first refuse a chain none ∙ (same none ∙ sym (none_first refuse b chain none)))
    (λ i g. given-first refuse a chain i g ∙ sym (given-first refuse b chain i g))

-- the bytes that are written for a sheet's plan
abbrev pub bytes_for : Sheet → List ℕ
bytes_for x = encode (with_plan x (step_for x))

-- a sheet with at most 32 tasks is not refused by 3
pub asked-few : (x : Sheet) → x.table.n ≤ most_tasks → asked x ≡ handed_by 0 (step_for x) (planned_chain x)
asked-few x few =
    let s = x.settings in
    let n = x.table.n in
    let three = TooManyTasks n when ltb most_tasks n in
    let after : List Check = record_check s x.table.rows n ∷ step_check s x.table.rows n ∷ [] in
    asked-chain x ∙ first-without (refused 0) (accepted (step_for x)) (settings_chain s) three after (le-ltb most_tasks n few)

-- what is written for a sheet with at most 32 tasks
sheet-chain : (x : Sheet) → x.table.n ≤ most_tasks → planned_sheet x ≡ handed_by [] (bytes_for x) (planned_chain x)
unfolding planned_sheet
sheet-chain x few =
    let rest : ℕ → Handed (List ℕ) = λ k. accepted (encode (with_plan x k)) in
    ap (λ (h : Handed ℕ). unrefused [] h rest) (asked-few x few) ∙ unrefused-chain [] 0 (step_for x) rest (planned_chain x)

module _ (s : List ℕ) where
  -- a sheet that reads has at most 32 tasks
  pub read-few : NoneHolds (reader_chain s) → (sheet_in s).table.n ≤ most_tasks
  unfolding sheet_in
  read-few none = ltb-false most_tasks (task_count s) (none 3 (omega arith))

  -- the program is its chain
  program-chain : planned s ≡ handed_by [] (bytes_for (sheet_in s)) (program_chain s)
  unfolding planned
  program-chain =
      let x = sheet_in s in
      let last = handed_by [] (bytes_for x) (planned_chain x) in
      ap (λ (h : Handed Sheet). unrefused [] h planned_sheet) (reader-chain s)
      ∙ (unrefused-chain [] no_sheet x planned_sheet (reader_chain s)
      ∙ (rest-only (refused []) (planned_sheet x) last (reader_chain s) (λ none. sheet-chain x (read-few none))
      ∙ first_then (refused []) (accepted (bytes_for x)) (reader_chain s) (planned_chain x)))

  -- the reader's 8, 9, 3, 10 and 11 from the left, then 1, 15, 2, 6 and 7 are given exactly when their sentences hold first; else the filled sheet is written
  pub program-exactly : Exactly (program_chain s) [] (bytes_for (sheet_in s)) (planned s)
  program-exactly = exactly (program_chain s) [] (bytes_for (sheet_in s)) (planned s) program-chain

  -- its numbers, in their order
  pub program-numbers : numbers_given (program_chain s) ≡ 8 ∷ 9 ∷ 8 ∷ 3 ∷ 8 ∷ 10 ∷ 8 ∷ 11 ∷ 1 ∷ 15 ∷ 2 ∷ 6 ∷ 7 ∷ []
  program-numbers = refl
