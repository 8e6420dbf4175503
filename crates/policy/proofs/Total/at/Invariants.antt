-- `policy::Total::at` meets its contract. The loop: the total of the first i shares of step k is at hand; n − i falls. Assumes nothing.
use Rattle.ground.proofs.Kit.{◌-◌}
use Rattle.springs.specs.Spring.{shares_on}
use Rattle.springs.specs.Springs.{spring_in}
use Rattle.policy.specs.Handover.{TotalIs}
use Rattle.policy.proofs.Total.at.Given as goal

abbrev pub invariant-loop-i : goal.invariant-loop-i
invariant-loop-i l = TotalIs (shares_on (spring_in l.springs) l.k) l.i l.sum l.max

abbrev pub decreases-loop-i : goal.decreases-loop-i
decreases-loop-i l = l.i-end - l.i
