-- `workable_springs::Held::index_of` may be called on workable springs. Assumes nothing.
use Rattle.order.proofs.Columns.{workable-indexable}
use Rattle.workable_springs.proofs.Held.index_of.Goals as goal

pub index_of-requires : goal.index_of-requires
index_of-requires c = workable-indexable _ _ _ c.args.self.now.work c.requires.0 c.requires.1
