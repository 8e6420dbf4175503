-- `springs::Springs::charges` meets its contract. The loop: the first i loads are the charges of step k, whose sum is at hand, and nothing
-- else has moved; n − i falls. Assumes nothing.
use Rattle.ground.proofs.Kit.{◌-◌}
use Rattle.springs.specs.Spring.{charges_on}
use Rattle.springs.specs.Springs.{spring_in}
use Rattle.springs.proofs.Columns.{Walked}
use Rattle.springs.proofs.Springs.charges.Given as goal

abbrev pub invariant-loop-i : goal.invariant-loop-i
invariant-loop-i l = Walked (charges_on l.notch (spring_in l.initial.self) l.k) l.i l.initial.self l.self l.sum

abbrev pub decreases-loop-i : goal.decreases-loop-i
decreases-loop-i l = l.i-end - l.i
