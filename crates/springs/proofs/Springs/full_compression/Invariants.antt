-- `springs::Springs::full_compression` meets its contract. The loop: the greatest of the saturation steps so far is at hand.
-- Assumes nothing.
use Rattle.ground.proofs.Kit.{◌≡◌}
use Rattle.springs.specs.Springs.{full_in}
use Rattle.springs.proofs.Springs.full_compression.Given as goal

abbrev pub invariant-loop-step : goal.invariant-loop-step
invariant-loop-step l = l.greatest ≡ full_in l.self l.step-index
