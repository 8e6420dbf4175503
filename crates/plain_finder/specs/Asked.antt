-- The plain finder asked of a sheet.
-- Assumes nothing.
use Rattle.std.specs.Prelude.{ℕ, true}
use Rattle.kinds.specs.declared.Sheet.{Sheet}
use Rattle.kinds.specs.Answer.{Handed}
use Rattle.outcome.specs.Plan.{found}

-- the answer to a sheet's settings and tasks, for outputs that hold as many entries as it has tasks
unfoldable pub asked : Sheet → Handed ℕ
asked x = found true x.settings x.table.rows x.table.n x.table.n
