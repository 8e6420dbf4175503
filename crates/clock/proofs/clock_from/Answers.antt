-- `clock::clock_from` meets its contract. Assumes nothing.
use Rattle.clock.proofs.Starts.{clock-made}
use Rattle.clock.proofs.clock_from.Goals as goal

pub returns : goal.returns
returns c = clock-made _ _ _ _ c.requires c.copy_from_slice.ensures.after (c.fill.ensures.after (λ y e. e))
