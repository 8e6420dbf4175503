-- `outcome::write_periods` meets its contract. The loop: the first i periods are written, and nothing past them has moved; n − i falls.
-- Assumes nothing.
use Rattle.ground.proofs.Kit.{◌≡◌, arith}
use Rattle.ground.proofs.Buffer.{front-none, front-more}
use Rattle.outcome.proofs.write_periods.Goals as goal

pub loop-i-init : goal.loop-i-init
loop-i-init c = front-none _ _

pub period-requires : goal.period-requires
period-requires c = rw c.spring.ensures (c.requires.1 c.loop-i.i (omega arith))

pub loop-i-preserved : goal.loop-i-preserved
loop-i-preserved c = front-more _ _ _ _ _ (omega arith) (rw c.spring.ensures at c.period.ensures) c.loop-i.invariant

pub returns : goal.returns
returns c =
    let all : c.loop-i.i ≡ c.args.springs.now.n = omega arith in
    rw all at c.loop-i.invariant.is
