-- `springs::Springs::period` meets its contract. Assumes nothing.
use Rattle.springs.proofs.Springs.period.Goals as goal

pub period-requires : goal.period-requires
period-requires c = rw c.spring.ensures c.requires.1
