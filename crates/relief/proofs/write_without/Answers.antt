-- `relief::write_without` meets its contract. The loop: the first i entries are written, and nothing past them has moved; n − i falls.
-- Assumes nothing.
use Rattle.ground.proofs.Kit.{◌≡◌, refl, arith}
use Rattle.ground.proofs.Buffer.{front-none, front-more}
use Rattle.relief.proofs.write_without.Goals as goal

pub loop-i-init : goal.loop-i-init
loop-i-init c = (refl, omega arith, front-none _ _)

pub loop-i-preserved : goal.loop-i-preserved
loop-i-preserved c =
    (c.loop-i.invariant.0, omega arith, front-more _ _ _ _ _ (omega arith) c.least_without.ensures c.loop-i.invariant.2)

pub returns : goal.returns
returns c =
    let e : c.loop-i.i ≡ c.args.table.n = omega arith in
    rw e at c.loop-i.invariant.2.is
