-- `sheet::row::put_section` meets its contract. Assumes nothing.
-- The loop: the first rows are stored from the place on, and nothing else.
use Rattle.ground.proofs.Kit.{◌≡◌, ◌*◌, length}
use Rattle.field.specs.Handover.{Put}
use Rattle.sheet.specs.Rows.{rows_bytes}
use Rattle.sheet.proofs.row.put_section.Given as goal

abbrev pub invariant-loop-row : goal.invariant-loop-row
invariant-loop-row g l =
    (length l.out ≡ length l.initial.out)
    × ((none : g.row.R.Denot) → Put l.initial.out l.from (g.R.Row.size * l.row-index) (rows_bytes g.R.Row.bytes none l.rows l.row-index) l.at l.out)
