-- `office::text_width` meets its contract. Assumes nothing.
-- The loop: the lines so far are counted.
use Rattle.ground.proofs.Kit.{◌*◌, ◌≤◌, ◌≡◌, length}
use Rattle.office.specs.Text.{text_to, longest_line}
use Rattle.office.proofs.text_width.Given as goal

abbrev pub invariant-loop-row : goal.invariant-loop-row
invariant-loop-row l = (l.width ≡ length (text_to l.rows l.row-index)) × (l.width ≤ longest_line * l.row-index)
