-- `clock::ticks_behind` meets its contract. Assumes nothing.
use Rattle.clock.specs.Ticks.{behind}
use Rattle.clock.proofs.Wrap.{late-then}
use Rattle.clock.proofs.ticks_behind.Goals as goal

pub returns : goal.returns
unfolding behind
returns c = rw c.then_some.ensures (late-then c.args.present c.args.next)
