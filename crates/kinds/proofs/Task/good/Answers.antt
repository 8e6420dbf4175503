-- `kinds::Task::good` meets its contract. Assumes nothing.
use Rattle.ground.proofs.Kit.{sym, ◌∙◌}
use Rattle.ground.proofs.Cases.{both-taken, both_left}
use Rattle.kinds.specs.Task.{is_good}
use Rattle.kinds.proofs.Task.good.Goals as goal

pub returns-then-within : goal.returns-then-within
unfolding is_good
returns-then-within c = both-taken _ _ _ (sym c.before.before.within.ensures ∙ c.before.if-within.true) c.on_notch.ensures

pub returns-else-within : goal.returns-else-within
unfolding is_good
returns-else-within c = both_left _ _ _ (sym c.within.ensures ∙ c.if-within.false) c.within.ensures
