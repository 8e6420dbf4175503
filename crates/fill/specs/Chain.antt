-- Document 01, "Program": the checks of the program, with the sentence of each number, in their order: the reader's, and then the plain finder's.
-- Assumes nothing.
use Rattle.std.specs.Prelude.{ℕ, List, [], ◌∷◌, ◌++◌}
use Rattle.kinds.specs.declared.Sheet.{Sheet}
use Rattle.kinds.specs.Chain.{Check}
use Rattle.policy.specs.Under.{least_under}
use Rattle.admission.specs.Chain.{settings_chain, record_check}
use Rattle.outcome.specs.Chain.{step_in, step_check}
use Rattle.sheet.specs.Reading.{sheet_in}
use Rattle.sheet.specs.Chain.{reader_chain}

-- the step of a sheet's plan
abbrev pub step_for : Sheet → ℕ
step_for x = step_in (least_under x.settings x.table.rows x.table.n)

-- those of the plain finder asked of a sheet that reads, which has at most 32 tasks and for which nothing is lent
abbrev pub planned_chain : Sheet → List Check
planned_chain x =
    let s = x.settings in
    let rows = x.table.rows in
    let n = x.table.n in
    settings_chain s ++ (record_check s rows n ∷ step_check s rows n ∷ [])

-- the whole of the program
abbrev pub program_chain : List ℕ → List Check
program_chain s = reader_chain s ++ planned_chain (sheet_in s)
