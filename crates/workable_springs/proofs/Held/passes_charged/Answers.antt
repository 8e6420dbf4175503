-- `workable_springs::Held::passes_charged` leaves workable springs. Assumes nothing.
use Rattle.springs.proofs.Columns.{workable-beside}
use Rattle.workable_springs.proofs.Held.passes_charged.Goals as goal

pub invariant_of-self : goal.invariant_of-self
invariant_of-self c =
    record { work = workable-beside _ _ c.passes_charged.ensures.2 c.passes_charged.ensures.1 c.args.self.now.work }
