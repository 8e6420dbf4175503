-- `keep::without` meets its contract. The loop: the first i records are copied, without the one at the place, and zeros stand past them; n − i
-- falls. Assumes nothing.
use Rattle.ground.proofs.Kit.{◌-◌}
use Rattle.keep.specs.Keep.{left_row}
use Rattle.keep.proofs.Rows.{Copied}
use Rattle.keep.proofs.without.Given as goal

abbrev pub invariant-loop-i : goal.invariant-loop-i
invariant-loop-i l = Copied (left_row l.old.rows l.place) l.n l.rows l.i

abbrev pub decreases-loop-i : goal.decreases-loop-i
decreases-loop-i l = l.n - l.i
