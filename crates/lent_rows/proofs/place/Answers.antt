-- `lent_rows::place` meets its contract. Assumes nothing.
use Rattle.ground.proofs.Kit.{arith}
use Rattle.lent_rows.proofs.Filling.{laid-filled}
use Rattle.lent_rows.proofs.place.Goals as goal

pub returns : goal.returns
returns g c = rw c.copy_from_slice.ensures.after (laid-filled c.args.rows.now c.args.places.now c.min-kept.result (omega arith))
