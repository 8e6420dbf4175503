-- `springs::Springs::share_sum` meets its contract. The loop: the first i loads are the shares of step k, whose sum is at hand, and nothing else
-- has moved; n − i falls. Assumes nothing.
use Rattle.ground.proofs.Kit.{◌≡◌, arith}
use Rattle.springs.specs.Spring.{share_on}
use Rattle.springs.specs.Springs.{spring_in}
use Rattle.springs.proofs.Columns.{springs-beside, walked-none, walked-more, walked-all}
use Rattle.springs.proofs.Springs.share_sum.Goals as goal
use Rattle.springs.proofs.Springs.share_sum.Goals.{After-share-share}

-- the spring that is read is that of the springs as they came
shared : (c : After-share-share) → c.share-share.result ≡ share_on (spring_in c.args.self.now c.loop-i.i) c.args.k
shared c = rw (c.spring.ensures, springs-beside _ _ c.loop-i.invariant.loaded.beside) at c.share-share.ensures.0

pub loop-i-init : goal.loop-i-init
loop-i-init c = walked-none _ _

pub share-share-requires : goal.share-share-requires
share-share-requires c =
    rw (c.spring.ensures, springs-beside _ _ c.loop-i.invariant.loaded.beside) (c.requires c.loop-i.i (omega arith))

pub loop-i-preserved : goal.loop-i-preserved
loop-i-preserved c =
    walked-more _ _ _ _ _ _ _ c.loop-i.invariant (omega arith) (omega arith) (shared c.before.before) c.share-share.ensures.1

pub returns : goal.returns
returns c = rw c.from.ensures (walked-all _ _ _ _ _ c.loop-i.invariant (omega arith))
