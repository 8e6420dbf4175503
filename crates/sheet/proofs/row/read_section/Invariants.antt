-- `sheet::row::read_section` meets its contract. Assumes nothing.
-- The loop: the first rows are those that stand from the place on, and the place is after them.
use Rattle.ground.proofs.Kit.{◌+◌, ◌≡◌, ◌≤◌, ◌*◌, length, take}
use Rattle.sheet.specs.Rows.{rows_in}
use Rattle.sheet.proofs.row.read_section.Given as goal

abbrev pub invariant-loop-row : goal.invariant-loop-row
invariant-loop-row g l =
    (l.at ≡ l.from + g.R.Row.size * l.row-index)
    × ((l.at ≤ length l.s) × (take l.row-index l.rows ≡ rows_in g.R.Row.size g.R.Row.row_at l.s l.from l.row-index))
