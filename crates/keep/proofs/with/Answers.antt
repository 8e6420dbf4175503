-- `keep::with` meets its contract. Assumes nothing.
use Rattle.keep.proofs.Rows.{joined_is}
use Rattle.keep.proofs.with.Goals as goal

pub returns : goal.returns
returns c = rw (c.without-after.ensures, joined_is _ _ c.args.task)
