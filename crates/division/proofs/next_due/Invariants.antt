-- `division::next_due` meets its contract. The loop: the nearest of the saturation steps so far that are above p is at hand. Assumes nothing.
use Rattle.ground.proofs.Kit.{◌≡◌}
use Rattle.springs.specs.Spring.{saturations}
use Rattle.springs.specs.Springs.{spring_in}
use Rattle.division.specs.Next.{next_to}
use Rattle.division.proofs.next_due.Given as goal

abbrev pub invariant-loop-step : goal.invariant-loop-step
invariant-loop-step l = l.nearest ≡ next_to (saturations (spring_in l.springs)) l.p l.step-index
