-- Ask 7: "Refusals 2, 3, 5 (proposal, then load output, too short) and 6 come first; then 13 .., then 14": the checks, with the sentence of each.
-- Assumes nothing.
use Rattle.std.specs.Prelude.{ℕ, ◌+◌, List, [], ◌∷◌, ltb, length}
use Rattle.kinds.specs.declared.Task.{Task}
use Rattle.kinds.specs.declared.Settings.{Settings}
use Rattle.kinds.specs.declared.Refusal.TheVariants.{Misset, TooManyTasks, OutputTooShort, BadRecord, ProcessorOutOfRange, ProcessorOverfull}
use Rattle.kinds.specs.Limits.{most_tasks}
use Rattle.kinds.specs.Chain.{Check, ◌when◌}
use Rattle.share.specs.Table.{first_bad}
use Rattle.policy.specs.Under.{loads_under}
use Rattle.admission.specs.Admission.{misset_numbers}
use Rattle.proposal.specs.Loads.{first_out_of_range, before_overfull}
use Rattle.proposal.specs.Proposal.{place_in}

-- the checker of a proposal at step k, with so much room for the loads
abbrev pub proposal_chain : Settings → List Task → ℕ → ℕ → List ℕ → ℕ → List Check
proposal_chain s rows n k proposal room =
    let bad = first_bad s.swap s.notch rows n in
    let task = first_out_of_range s.m (place_in proposal) n in
    let before = before_overfull (loads_under s rows n k) (place_in proposal) n s.m in
    Misset when misset_numbers s
    ∷ TooManyTasks n when ltb most_tasks n
    ∷ OutputTooShort n when ltb (length proposal) n
    ∷ OutputTooShort s.m when ltb room s.m
    ∷ BadRecord bad when ltb bad n
    ∷ ProcessorOutOfRange task when ltb task n
    ∷ ProcessorOverfull (before + 1) when ltb before s.m
    ∷ []
