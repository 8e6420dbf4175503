-- `field::put` meets its contract. Assumes nothing.
use Rattle.ground.proofs.Kit.{arith}
use Rattle.field.proofs.Numbers.{bytes-long}
use Rattle.field.proofs.Stores.{put-part}
use Rattle.field.proofs.put.Goals as goal

pub returns : goal.returns
returns g c = rw c.fill.ensures (put-part _ _ _ _ _ (bytes-long _ _) (omega arith) (omega arith))
