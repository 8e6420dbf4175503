-- "Given exactly when", of the finder of jobs that need several cores: `wide-exactly`; the numbers that it gives are `wide-numbers`.
-- Assumes nothing.
use Rattle.kinds.specs.Answer.{Verdict}
use Rattle.ground.proofs.Kit.{ℕ, ◌≤◌, true, false, List, [], ◌∷◌, ◌++◌, ◌≡◌, refl, ◌∙◌, ap, ltb}
use Rattle.kinds.specs.declared.Refusal.TheVariants.{Misset, TooManyTasks, OutputTooShort, BadRecord}
use Rattle.kinds.specs.Limits.{most_tasks}
use Rattle.kinds.specs.Chain.{Check, ◌when◌, first_by, first_of, handed_by, Exactly, numbers_given}
use Rattle.kinds.proofs.Chains.{exactly}
use Rattle.admission.specs.Admission.{and_then, misset, gate}
use Rattle.admission.proofs.Exactly.{then-first}
use Rattle.outcome.specs.Plan.{decided}
use Rattle.outcome.specs.Chain.{none_passes, step_in}
use Rattle.outcome.proofs.Exactly.{decided-chain, passes_none}
use Rattle.wide_task.specs.declared.WideTask.{WideTask}
use Rattle.wide_finder.specs.Table.{full_compression, first_bad, passes_at, least_step}
use Rattle.wide_finder.specs.Wide.{admission, found}
use Rattle.wide_finder.specs.Chain.{wide_chain}
use Rattle.wide_finder.proofs.Passing.{step-nothing, nothing-passes}

module _ (m : ℕ) (rows : List WideTask) (n room : ℕ) where
  -- 2 to 6
  abbrev admission_chain : List Check
  admission_chain =
      let bad = first_bad rows n in
      Misset when misset m
      ∷ TooManyTasks n when ltb most_tasks n
      ∷ OutputTooShort n when ltb room n
      ∷ BadRecord bad when ltb bad n
      ∷ []

  -- the admission is that chain
  admission-chain : admission m rows n room ≡ first_of admission_chain
  unfolding admission gate first_by
  admission-chain =
      let bad = first_bad rows n in
      let two : List Check = Misset when misset m ∷ TooManyTasks n when ltb most_tasks n ∷ [] in
      let five : List Check = OutputTooShort n when ltb room n ∷ [] in
      let six : List Check = BadRecord bad when ltb bad n ∷ [] in
      ap (λ (v : Verdict). and_then v (first_of six)) (then-first two five) ∙ then-first (two ++ five) six

  -- and the finder goes on with 7
  wide-chain : found m rows n room ≡ handed_by 0 (step_in (least_step m rows n)) (wide_chain m rows n room)
  unfolding found
  wide-chain = ap (λ (v : Verdict). decided v (least_step m rows n)) admission-chain ∙ decided-chain admission_chain (least_step m rows n)

  -- 2, 3, 5, 6 and 7 are given exactly when their sentences hold, the earlier first
  pub wide-exactly : Exactly (wide_chain m rows n room) 0 (step_in (least_step m rows n)) (found m rows n room)
  wide-exactly = exactly (wide_chain m rows n room) 0 (step_in (least_step m rows n)) (found m rows n room) wide-chain

  -- "refusals 2, 3, 5, 6, 7 in that order"
  pub wide-numbers : numbers_given (wide_chain m rows n room) ≡ 2 ∷ 3 ∷ 5 ∷ 6 ∷ 7 ∷ []
  wide-numbers = refl

-- the sentence of 7 in the document's words, both ways
module _ (m : ℕ) (rows : List WideTask) (n : ℕ) where
  -- where it holds no step from 0 to K passes
  pub none_passes_lem : none_passes (least_step m rows n) ≡ true → (k : ℕ) → k ≤ full_compression rows n → passes_at m rows n k ≡ false
  none_passes_lem e = step-nothing m rows n (passes_none (least_step m rows n) e)

  -- and where none passes it holds
  pub passes-nowhere : ((k : ℕ) → k ≤ full_compression rows n → passes_at m rows n k ≡ false) → none_passes (least_step m rows n) ≡ true
  passes-nowhere h = ap none_passes (nothing-passes m rows n h)
