-- Document 01, "Numbers we hand back": the checks of the plain finder asked of a sheet, with the sentence of each number, in their order.
-- Assumes nothing.
use Rattle.std.specs.Prelude.{List, [], ◌∷◌, ◌++◌, ltb}
use Rattle.kinds.specs.declared.Sheet.{Sheet}
use Rattle.kinds.specs.declared.Refusal.TheVariants.{TooManyTasks}
use Rattle.kinds.specs.Limits.{most_tasks}
use Rattle.kinds.specs.Chain.{Check, ◌when◌}
use Rattle.admission.specs.Chain.{settings_chain, record_check}
use Rattle.outcome.specs.Chain.{step_check}

-- nothing is lent, so 5 is not among them
abbrev pub asked_chain : Sheet → List Check
asked_chain x =
    let s = x.settings in
    let rows = x.table.rows in
    let n = x.table.n in
    settings_chain s ++ (TooManyTasks n when ltb most_tasks n ∷ record_check s rows n ∷ step_check s rows n ∷ [])
