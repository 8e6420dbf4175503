-- `springs::Springs::charges` meets its contract. The loop: the first i loads are the charges of step k, whose sum is at hand, and nothing else
-- has moved; n − i falls. Assumes nothing.
use Rattle.ground.proofs.Kit.{◌≡◌, arith}
use Rattle.springs.specs.Spring.{charges_on}
use Rattle.springs.specs.Springs.{spring_in}
use Rattle.springs.proofs.Columns.{springs-beside, walked-none, walked-more, walked-all}
use Rattle.springs.proofs.Springs.charges.Goals as goal
use Rattle.springs.proofs.Springs.charges.Goals.{After-charge-charge}

-- the spring that is read is that of the springs as they came
charged : (c : After-charge-charge) → let args = c.args in
    c.charge-charge.result ≡ charges_on args.notch (spring_in args.self.now) args.k c.loop-i.i
charged c =
    rw (c.spring.ensures, springs-beside _ _ c.loop-i.invariant.loaded.beside) at c.charge-charge.ensures.0

pub loop-i-init : goal.loop-i-init
loop-i-init c = walked-none _ _

pub charge-charge-requires : goal.charge-charge-requires
charge-charge-requires c =
    rw (c.spring.ensures, springs-beside _ _ c.loop-i.invariant.loaded.beside) (c.requires c.loop-i.i (omega arith))

pub loop-i-preserved : goal.loop-i-preserved
loop-i-preserved c =
    walked-more _ _ _ _ _ _ _ c.loop-i.invariant (omega arith) (omega arith) (charged c.before.before) c.charge-charge.ensures.1

pub returns : goal.returns
returns c = rw c.from.ensures (walked-all _ _ _ _ _ c.loop-i.invariant (omega arith))
