-- "Given exactly when", of the checker of proposals: `proposal-exactly`; the numbers that it gives are `proposal-numbers`.
-- Assumes nothing.
use Rattle.kinds.specs.Answer.{Verdict}
use Rattle.ground.proofs.Kit.{ℕ, ◌+◌, List, [], ◌∷◌, ◌++◌, ◌≡◌, refl, ◌∙◌, ap, ltb, length}
use Rattle.kinds.specs.declared.Task.{Task}
use Rattle.kinds.specs.declared.Settings.{Settings}
use Rattle.kinds.specs.declared.Refusal.TheVariants.{Misset, TooManyTasks, OutputTooShort, BadRecord, ProcessorOutOfRange, ProcessorOverfull}
use Rattle.kinds.specs.Limits.{most_tasks}
use Rattle.kinds.specs.Chain.{Check, ◌when◌, first_by, first_of, Exactly, numbers_given}
use Rattle.kinds.proofs.Chains.{verdict-exactly}
use Rattle.share.specs.Table.{first_bad}
use Rattle.policy.specs.Under.{loads_under}
use Rattle.admission.specs.Admission.{and_then, misset_numbers, gate}
use Rattle.admission.proofs.Exactly.{then-first}
use Rattle.proposal.specs.Loads.{first_out_of_range, before_overfull}
use Rattle.proposal.specs.Proposal.{place_in, admission, placing, proposal_verdict, outcome}
use Rattle.proposal.specs.Chain.{proposal_chain}

module _ (s : Settings) (rows : List Task) (n k : ℕ) (proposal : List ℕ) where
  -- every check of a proposal is in its chain
  judged-chain : (room : ℕ) → proposal_verdict s rows n k proposal room ≡ first_of (proposal_chain s rows n k proposal room)
  unfolding proposal_verdict admission placing gate first_by
  judged-chain room =
      let bad = first_bad s.swap s.notch rows n in
      let task = first_out_of_range s.m (place_in proposal) n in
      let before = before_overfull (loads_under s rows n k) (place_in proposal) n s.m in
      let two : List Check = Misset when misset_numbers s ∷ TooManyTasks n when ltb most_tasks n ∷ [] in
      let entries : List Check = OutputTooShort n when ltb (length proposal) n ∷ [] in
      let loads : List Check = OutputTooShort s.m when ltb room s.m ∷ [] in
      let six : List Check = BadRecord bad when ltb bad n ∷ [] in
      let last : List Check =
      ProcessorOutOfRange task when ltb task n ∷ ProcessorOverfull (before + 1) when ltb before s.m ∷ [] in
      let to-five = ap (and_then (first_of two)) (then-first entries loads) ∙ then-first two (entries ++ loads) in
      let to-six = ap (λ (v : Verdict). and_then v (first_of six)) to-five ∙ then-first (two ++ (entries ++ loads)) six in
      ap (λ (v : Verdict). and_then v (first_of last)) to-six ∙ then-first ((two ++ (entries ++ loads)) ++ six) last

  -- 2, 3, 5 (of the proposal, then of the loads), 6, 13 and 14 are given exactly when their sentences hold, the earlier first
  pub proposal-exactly : (old : List ℕ) → Exactly (proposal_chain s rows n k proposal (length old)) tt tt (outcome s rows n k proposal old).handed
  unfolding outcome
  proposal-exactly old =
      verdict-exactly (proposal_chain s rows n k proposal (length old)) (proposal_verdict s rows n k proposal (length old)) (judged-chain (length old))

  -- its numbers, in their order
  pub proposal-numbers : (room : ℕ) → numbers_given (proposal_chain s rows n k proposal room) ≡ 2 ∷ 3 ∷ 5 ∷ 5 ∷ 6 ∷ 13 ∷ 14 ∷ []
  proposal-numbers room = refl
