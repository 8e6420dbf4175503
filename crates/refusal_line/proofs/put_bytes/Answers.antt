-- `refusal_line::put_bytes` meets its contract. Assumes nothing.
use Rattle.ground.proofs.Kit.{arith}
use Rattle.refusal_line.proofs.Copies.{copied}
use Rattle.refusal_line.proofs.put_bytes.Goals as goal

pub returns : goal.returns
returns c = copied _ _ _ _ _ c.requires c.copy_from_slice.ensures.after (omega arith)
