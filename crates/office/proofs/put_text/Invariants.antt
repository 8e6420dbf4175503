-- `office::put_text` meets its contract. Assumes nothing.
-- The loop: the lines so far are stored at the front, and nothing else.
use Rattle.ground.proofs.Kit.{◌≡◌, length}
use Rattle.field.specs.Handover.{Put}
use Rattle.office.specs.Text.{text_to}
use Rattle.office.proofs.put_text.Given as goal

abbrev pub invariant-loop-row : goal.invariant-loop-row
invariant-loop-row l =
    (length l.out ≡ length l.initial.out)
    × Put l.initial.out 0 (length (text_to l.rows l.row-index)) (text_to l.rows l.row-index) l.at l.out
