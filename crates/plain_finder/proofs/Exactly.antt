-- "Given exactly when", of the plain finder asked of a sheet: `asked-exactly`; the numbers are `asked-numbers`, and 5 is never given, `asked-not-five`.
-- Assumes nothing.
use Rattle.ground.proofs.Kit.{ℕ, Bool, true, not, List, [], ◌∷◌, ◌++◌, ◌≡◌, refl, ◌∙◌, ⊎_elim, arith, eqb, ltb, eq-eqb, le-ltb}
use mathlib.Core.List.Memᴰ
use mathlib.Core.List.{Memᴰ}
use Rattle.ground.specs.Choice.{both}
use Rattle.ground.proofs.Cases.{both_true, true-false}
use Rattle.kinds.specs.declared.Sheet.{Sheet}
use Rattle.kinds.specs.declared.Refusal.TheVariants.{PolicyWithdrawn, TooManyTasks, OutputTooShort}
use Rattle.kinds.specs.Answer.{accepted, refused}
use Rattle.kinds.specs.Limits.{most_tasks}
use Rattle.kinds.specs.Policy.{policy_number}
use Rattle.kinds.specs.Chain.{Check, ◌when◌, handed_by, Exactly, numbers_given}
use Rattle.kinds.proofs.Chains.{exactly, first-without, number-among}
use Rattle.policy.specs.Under.{least_under}
use Rattle.admission.specs.Admission.{admission}
use Rattle.admission.specs.Chain.{settings_chain, record_check}
use Rattle.outcome.specs.Plan.{found}
use Rattle.outcome.specs.Chain.{step_in, step_check}
use Rattle.outcome.proofs.Exactly.{plain-chain}
use Rattle.plain_finder.specs.Asked.{asked}
use Rattle.plain_finder.specs.Chain.{asked_chain}

-- a number that differs from each of a list is not among them
abbrev lacks : List ℕ → ℕ → Bool
lacks [] k = true
lacks (n ∷ ns) k = both (not (eqb k n)) (lacks ns k)

not-among : (k : ℕ) (ns : List ℕ) → lacks ns k ≡ true → Memᴰ k ns → ⊥
not-among k [] h m = Memᴰ.not-nil m
not-among k (n ∷ ns) h m =
    let b = both_true (not (eqb k n)) (lacks ns k) h in
    ⊎_elim (λ e. true-false b.0 (rw (eq-eqb k n e))) (λ r. not-among k ns b.1 r) (Memᴰ.cases_cons m)

module _ (x : Sheet) where
  -- room for as many entries as there are tasks is never too short, so 5 may be left out
  pub asked-chain : asked x ≡ handed_by 0 (step_in (least_under x.settings x.table.rows x.table.n)) (asked_chain x)
  unfolding asked
  asked-chain =
      let s = x.settings in
      let rows = x.table.rows in
      let n = x.table.n in
      let before : List Check = settings_chain s ++ (TooManyTasks n when ltb most_tasks n ∷ []) in
      let five = OutputTooShort n when ltb n n in
      let after : List Check = record_check s rows n ∷ step_check s rows n ∷ [] in
      plain-chain s rows n n ∙ first-without (refused 0) (accepted (step_in (least_under s rows n))) before five after (le-ltb n n (omega arith))

  -- 1, 15, 2, 3, 6 and 7 are given exactly when their sentences hold, the earlier first
  pub asked-exactly : Exactly (asked_chain x) 0 (step_in (least_under x.settings x.table.rows x.table.n)) (asked x)
  asked-exactly = exactly (asked_chain x) 0 (step_in (least_under x.settings x.table.rows x.table.n)) (asked x) asked-chain

  -- the numbers, in their order
  pub asked-numbers : numbers_given (asked_chain x) ≡ 1 ∷ 15 ∷ 2 ∷ 3 ∷ 6 ∷ 7 ∷ []
  asked-numbers = refl

  -- nothing is lent, so 5 is never given
  pub asked-not-five : (asked x).number ≡ 5 → ⊥
  asked-not-five e =
      let among = number-among (asked_chain x) 0 (step_in (least_under x.settings x.table.rows x.table.n)) (asked x) asked-exactly in
      not-among 5 (0 ∷ numbers_given (asked_chain x)) refl (rw e at among)

  -- Ask 8: policy 3, and a further choice that holds 3, is refused by 15
  pub asked-withdrawn : policy_number x.settings.policy ≡ 3 → asked x ≡ refused 0 PolicyWithdrawn
  unfolding asked found admission
  asked-withdrawn e = rw e
