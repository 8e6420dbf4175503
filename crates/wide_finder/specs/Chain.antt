-- Ask 4: "refusals 2, 3, 5, 6, 7 in that order": the checks of the finder, with the sentence of each number.
-- Assumes nothing.
use Rattle.std.specs.Prelude.{ℕ, List, [], ◌∷◌, ltb}
use Rattle.kinds.specs.declared.Refusal.TheVariants.{Misset, TooManyTasks, OutputTooShort, BadRecord, NoStepPasses}
use Rattle.kinds.specs.Limits.{most_tasks}
use Rattle.kinds.specs.Chain.{Check, ◌when◌}
use Rattle.admission.specs.Admission.{misset}
use Rattle.outcome.specs.Chain.{none_passes}
use Rattle.wide_task.specs.declared.WideTask.{WideTask}
use Rattle.wide_finder.specs.Table.{first_bad, least_step}

-- the finder of jobs that need several cores
abbrev pub wide_chain : ℕ → List WideTask → ℕ → ℕ → List Check
wide_chain m rows n room =
    let bad = first_bad rows n in
    Misset when misset m
    ∷ TooManyTasks n when ltb most_tasks n
    ∷ OutputTooShort n when ltb room n
    ∷ BadRecord bad when ltb bad n
    ∷ NoStepPasses when none_passes (least_step m rows n)
    ∷ []
