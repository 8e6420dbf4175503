-- `springs::Spring::of` meets its contract. Assumes nothing.
use Rattle.ground.proofs.Kit.{◌≡◌}
use Rattle.share.specs.Share.{saturation_at}
use Rattle.springs.proofs.Spring.of.Goals as goal
use Rattle.springs.proofs.Spring.of.Goals.{After-saturation-saturation}

saturated : (c : After-saturation-saturation) → let task = c.args.task in c.saturation-saturation.result ≡ saturation_at task
unfolding saturation_at
saturated c = rw (← c.largest-largest.ensures.is, ← c.least-least.ensures.is) c.saturation-saturation.ensures

pub returns : goal.returns
returns c =
    rw (c.largest-largest.ensures.is, c.least-least.ensures.is, saturated c.before.before)
