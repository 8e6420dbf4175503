-- `policy::Total::at` meets its contract. The loop: the total of the first i shares of step k is at hand; n − i falls. Assumes nothing.
use Rattle.ground.proofs.Kit.{◌≡◌, arith}
use Rattle.policy.proofs.Totals.{total-none, total-more}
use Rattle.policy.proofs.Total.at.Goals as goal

pub loop-i-init : goal.loop-i-init
loop-i-init c = total-none _

pub share-share-requires : goal.share-share-requires
share-share-requires c = rw c.spring.ensures (c.requires c.loop-i.i (omega arith))

pub overflow_add-sum : goal.overflow_add-sum
overflow_add-sum c = omega (arith, c.share-share.ensures.1, c.loop-i.invariant.added.most)

pub loop-i-preserved : goal.loop-i-preserved
loop-i-preserved c =
    total-more _ _ _ _ _ _ c.loop-i.invariant (rw c.spring.ensures at c.share-share.ensures.0) c.share-share.ensures.1 c.max-max.ensures

pub returns : goal.returns
returns c =
    let all : c.loop-i.i ≡ c.args.springs.now.n = omega arith in
    rw (c.from.ensures, c.from-2.ensures) (rw all at c.loop-i.invariant)
