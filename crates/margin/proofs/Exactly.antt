-- "Given exactly when", of the margin: `margin-exactly`; the numbers that it gives are `margin-numbers`.
-- Assumes nothing.
use Rattle.ground.proofs.Kit.{ℕ, Bool, false, not, List, [], ◌∷◌, ◌++◌, ◌≡◌, refl, ◌∙◌, ap, arith, ltb, le-ltb, Ok, Err}
use lib.IntN.{pos}
use Rattle.ground.specs.Choice.{both}
use Rattle.kinds.specs.declared.Task.{Task}
use Rattle.kinds.specs.declared.Settings.{Settings}
use Rattle.kinds.specs.declared.Refusal.TheVariants.{TooManyTasks, PolicyNotServed, OutputTooShort}
use Rattle.kinds.specs.Answer.{accepted, refused, Verdict}
use Rattle.kinds.specs.Limits.{most_tasks}
use Rattle.kinds.specs.Policy.{meant, is_first_fit}
use Rattle.kinds.specs.Chain.{Check, ◌when◌, handed_by, Exactly, numbers_given}
use Rattle.kinds.proofs.Chains.{exactly, first-through, first-without}
use Rattle.policy.specs.Under.{margin_under}
use Rattle.admission.specs.Chain.{settings_chain, record_check, admission_chain}
use Rattle.admission.proofs.Exactly.{unserved, admission-chain}
use Rattle.margin.specs.Margin.{reported, margin_handed}
use Rattle.margin.specs.Chain.{margin_chain}

module _ (s : Settings) (rows : List Task) (n k : ℕ) where
  -- the admission, in which room for as many entries as there are tasks is never too short
  margin-chain : margin_handed s rows n k ≡ handed_by (pos 0) (margin_under s rows n k) (margin_chain s rows n)
  unfolding margin_handed
  margin-chain =
      let first = is_first_fit (meant s.policy) in
      let x = margin_under s rows n k in
      let five = OutputTooShort n when ltb n n in
      let before : Bool → List Check = λ four. settings_chain s ++ (TooManyTasks n when ltb most_tasks n ∷ PolicyNotServed when four ∷ []) in
      let six : List Check = record_check s rows n ∷ [] in
      ap (λ (v : Verdict). reported v x) (admission-chain false s rows n n)
      ∙ (first-through (λ v. reported v x) Err (Ok tt) (admission_chain false s rows n n)
      ∙ (first-without (refused (pos 0)) (accepted x) (before (both first (not false))) five six (le-ltb n n (omega arith))
      ∙ ap (λ (four : Bool). handed_by (pos 0) x (before four ++ six)) (unserved first)))

  -- 1, 15, 2, 3, 4 and 6 are given exactly when their sentences hold, the earlier first
  pub margin-exactly : Exactly (margin_chain s rows n) (pos 0) (margin_under s rows n k) (margin_handed s rows n k)
  margin-exactly = exactly (margin_chain s rows n) (pos 0) (margin_under s rows n k) (margin_handed s rows n k) margin-chain

-- "The margin gives 1, 2, 3, 4, 6 only", and 15 in the place of 1
pub margin-numbers : (s : Settings) (rows : List Task) (n : ℕ) → numbers_given (margin_chain s rows n) ≡ 1 ∷ 15 ∷ 2 ∷ 3 ∷ 4 ∷ 6 ∷ []
margin-numbers s rows n = refl
