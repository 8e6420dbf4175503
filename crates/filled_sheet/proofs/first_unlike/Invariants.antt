-- `filled_sheet::first_unlike` meets its contract. Assumes nothing.
-- The loop: none of the first i results differs.
use Rattle.ground.proofs.Kit.{ℕ, ◌<◌, false, ◌≡◌}
use Rattle.filled_sheet.specs.Checked.{unlike}
use Rattle.filled_sheet.proofs.first_unlike.Given as goal

abbrev pub invariant-loop-i : goal.invariant-loop-i
invariant-loop-i l = (j : ℕ) → j < l.i → unlike l.results.rows l.due.rows j ≡ false
