-- `workable_springs::Held::least_step` leaves workable springs. Assumes nothing.
use Rattle.springs.proofs.Columns.{workable-beside}
use Rattle.workable_springs.proofs.Held.least_step.Goals as goal

pub invariant_of-self : goal.invariant_of-self
invariant_of-self c =
    record { work = workable-beside _ _ c.least_step.ensures.2 c.least_step.ensures.1 c.args.self.now.work }
