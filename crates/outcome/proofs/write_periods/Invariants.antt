-- `outcome::write_periods` meets its contract. The loop: the first i periods are written, and nothing past them has moved; n − i falls.
-- Assumes nothing.
use Rattle.ground.proofs.Kit.{◌-◌}
use Rattle.ground.proofs.Buffer.{Front}
use Rattle.springs.specs.Spring.{periods_on}
use Rattle.springs.specs.Springs.{spring_in}
use Rattle.outcome.proofs.write_periods.Given as goal

abbrev pub invariant-loop-i : goal.invariant-loop-i
invariant-loop-i l = Front (periods_on l.notch (spring_in l.springs) l.k) l.initial.out l.out l.i

abbrev pub decreases-loop-i : goal.decreases-loop-i
decreases-loop-i l = l.i-end - l.i
