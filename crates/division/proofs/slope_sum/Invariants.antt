-- `division::slope_sum` meets its contract. The loop: the fall of the first i shares is at hand; n − i falls. Assumes nothing.
use Rattle.ground.proofs.Kit.{◌-◌}
use Rattle.springs.specs.Springs.{spring_in}
use Rattle.division.specs.Division.{FallIs}
use Rattle.division.proofs.slope_sum.Given as goal

abbrev pub invariant-loop-i : goal.invariant-loop-i
invariant-loop-i l = FallIs (spring_in l.springs) l.i l.p l.fall

abbrev pub decreases-loop-i : goal.decreases-loop-i
decreases-loop-i l = l.i-end - l.i
