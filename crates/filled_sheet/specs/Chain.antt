-- Ask 14: "Reader and finder refusals come first, then 18 at 0 when tasks stand there without results, then 19 naming the first result that differs.":
-- the checks, with the sentence of each number, in their order.
-- Assumes nothing.
use Rattle.std.specs.Prelude.{ℕ, List, [], ◌∷◌, ◌++◌, ltb}
use Rattle.kinds.specs.declared.Sheet.{Sheet}
use Rattle.kinds.specs.declared.Refusal.TheVariants.{NoResults, WrongResult}
use Rattle.kinds.specs.Chain.{Check, ◌when◌}
use Rattle.sheet.specs.Reading.{sheet_in}
use Rattle.fill.specs.Results.{with_plan}
use Rattle.fill.specs.Chain.{step_for, program_chain}
use Rattle.filled_sheet.specs.Checked.{first_differing}

-- of the results of a sheet where those of another are due
abbrev pub compared_chain : Sheet → Sheet → List Check
compared_chain x due =
    let n = x.table.n in
    let first = first_differing x due in
    NoResults when ltb x.results.n n
    ∷ WrongResult first when ltb first n
    ∷ []

-- the whole of the checker
abbrev pub check_chain : List ℕ → List Check
check_chain s = program_chain s ++ compared_chain (sheet_in s) (with_plan (sheet_in s) (step_for (sheet_in s)))
