-- `relief::write_without` meets its contract. The loop: the first i entries are written, and nothing past them has moved; n − i falls.
-- Assumes nothing.
use Rattle.ground.proofs.Kit.{◌-◌, ◌≤◌, ◌≡◌}
use Rattle.ground.proofs.Buffer.{Front}
use Rattle.relief.specs.Relief.{least_without}
use Rattle.relief.proofs.write_without.Given as goal

abbrev pub invariant-loop-i : goal.invariant-loop-i
invariant-loop-i l = (l.n ≡ l.table.n) × (l.i ≤ l.n) × Front (least_without l.settings l.table.rows l.table.n) l.initial.out l.out l.i

abbrev pub decreases-loop-i : goal.decreases-loop-i
decreases-loop-i l = l.n - l.i
