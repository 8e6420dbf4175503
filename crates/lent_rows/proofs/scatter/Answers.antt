-- `lent_rows::scatter` meets its contract. Assumes nothing.
use Rattle.ground.proofs.Kit.{arith}
use Rattle.lent_rows.proofs.Filling.{rows-over}
use Rattle.lent_rows.proofs.scatter.Goals as goal

pub returns : goal.returns
returns c = rw c.copy_from_slice.ensures.after (rows-over c.args.table.rows c.args.out.now c.args.table.n (omega arith) (omega arith))
