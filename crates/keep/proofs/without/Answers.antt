-- `keep::without` meets its contract. The loop: the first i records are copied, without the one at the place, and zeros stand past them; n − i
-- falls. Assumes nothing.
use Rattle.ground.proofs.Kit.{◌≡◌, ap, arith}
use Rattle.kinds.specs.Task.{at}
use Rattle.keep.specs.Keep.{left_row}
use Rattle.keep.proofs.Rows.{copied_none, copied_more}
use Rattle.keep.proofs.without.Goals as goal

pub loop-i-init : goal.loop-i-init
loop-i-init c = copied_none _ _

pub loop-i-preserved : goal.loop-i-preserved
loop-i-preserved c =
    let args = c.args in
    let e = ap (at args.old.rows) c.left_from-from.ensures in
    copied_more (left_row args.old.rows args.place) _ _ _ _ c.loop-i.invariant c.loop-i-test.true e

pub returns : goal.returns
returns c =
    let e : c.loop-i.i ≡ c.args.n = omega arith in
    let copied = rw e at c.loop-i.invariant.is in
    rw copied
