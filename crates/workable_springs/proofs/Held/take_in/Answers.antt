-- `workable_springs::Held::take_in` leaves workable springs. Assumes nothing.
use Rattle.springs.proofs.Columns.{taken-workable}
use Rattle.workable_springs.proofs.Held.take_in.Goals as goal

pub invariant_of-self : goal.invariant_of-self
invariant_of-self c = record { work = taken-workable _ _ _ _ _ _ c.take_in.ensures.0 c.requires.1 c.args.self.now.springs c.take_in.ensures.1 c.args.self.now.work }
