-- Bench case K's tasks on 3 processors, with some proposals, worked out: a step that first fit passes, and one that it does not.
-- Assumes nothing.
use Rattle.ground.proofs.Kit.{ℕ, List, [], ◌∷◌, ◌≡◌, refl}
use Rattle.ground.specs.First.{first_from, first_below}
use Rattle.ground.specs.Folds.{sum_to, list_to}
use Rattle.kinds.specs.declared.Task.{Task}
use Rattle.kinds.specs.declared.Policy.TheVariants.{Further}
use Rattle.kinds.specs.declared.Refusal.TheVariants.{OutputTooShort, ProcessorOutOfRange, ProcessorOverfull}
use Rattle.kinds.specs.Answer.{accepted, refused}
use Rattle.kinds.specs.Settings.{settings}
use Rattle.kinds.specs.Task.{task, is_within, is_good}
use Rattle.share.specs.Share.{share_at, period_at, charge_at, load_at}
use Rattle.share.specs.Table.{first_bad, priced_rows}
use Rattle.admission.specs.Admission.{gate}
use Rattle.proposal.specs.Loads.{processor_load, loads_to, first_out_of_range, before_overfull}
use Rattle.proposal.specs.Proposal.{admission, placing, proposal_verdict, Outcome, outcome}

rows : List Task
rows =
    task 3000 4000 5000 10000 ∷ task 450 1000 1000 0 ∷ task 320 1000 1000 0 ∷ task 350 1000 1000 0
    ∷ task 300 1000 1000 0 ∷ task 230 1000 1000 0 ∷ task 650 1000 1000 0 ∷ []

-- an output with room for one load more
lent : List ℕ
lent = 9 ∷ 9 ∷ 9 ∷ 9 ∷ []

-- no policy is asked for
asked : ℕ → ℕ → List ℕ → Outcome
asked edition k proposal = outcome (settings (Further 0) 3 0 1 edition) rows 7 k proposal lent

-- at step 5 what first fit places there, with every processor full; at step 7, which first fit fails, another; nothing is written past the 3
-- loads. Under edition 2 the first task, whose period is 4,412, is charged 36 parts less than its share. The fourth task on a processor that
-- is not there; the second processor overfull; a proposal for six tasks
worked :
    (asked 1 5 (1 ∷ 2 ∷ 2 ∷ 3 ∷ 1 ∷ 2 ∷ 3 ∷ []) ≡ record { handed = accepted tt; loads = 1000000 ∷ 1000000 ∷ 1000000 ∷ 9 ∷ [] })
    × (asked 1 7 (1 ∷ 3 ∷ 1 ∷ 2 ∷ 3 ∷ 3 ∷ 2 ∷ []) ≡ record { handed = accepted tt; loads = 1000000 ∷ 1000000 ∷ 980000 ∷ 9 ∷ [] })
    × (asked 2 7 (1 ∷ 3 ∷ 1 ∷ 2 ∷ 3 ∷ 3 ∷ 2 ∷ []) ≡ record { handed = accepted tt; loads = 999964 ∷ 1000000 ∷ 980000 ∷ 9 ∷ [] })
    × (asked 1 5 (1 ∷ 2 ∷ 2 ∷ 4 ∷ 1 ∷ 0 ∷ 3 ∷ []) ≡ record { handed = refused tt (ProcessorOutOfRange 3); loads = lent })
    × (asked 1 5 (1 ∷ 2 ∷ 2 ∷ 3 ∷ 2 ∷ 2 ∷ 3 ∷ []) ≡ record { handed = refused tt (ProcessorOverfull 2); loads = lent })
    × (asked 1 5 (1 ∷ 2 ∷ 2 ∷ 3 ∷ 1 ∷ 2 ∷ []) ≡ record { handed = refused tt (OutputTooShort 7); loads = lent })
unfolding
    asked rows lent outcome proposal_verdict admission gate first_bad is_good is_within placing processor_load loads_to first_out_of_range before_overfull first_below
    first_from sum_to list_to share_at period_at charge_at load_at priced_rows
worked = (refl, refl, refl, refl, refl, refl)
