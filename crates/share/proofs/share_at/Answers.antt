-- `share::share_at` meets its contract: each `return` is one law of `Under`. Assumes nothing.
use Rattle.ground.proofs.Kit.{arith}
use Rattle.share.specs.Share.{share_at}
use Rattle.share.proofs.Under.{found-good, shared-unset, shared-bad, shared-good}
use Rattle.share.proofs.share_at.Goals as goal

pub returns-then-notch-eq0 : goal.returns-then-notch-eq0
returns-then-notch-eq0 c = shared-unset _ _ _ _ c.if-notch-eq0.true c.new.ensures

pub returns-then-not-good : goal.returns-then-not-good
returns-then-not-good c = shared-bad _ _ _ _ _ c.good.ensures c.if-not-good.true-raw c.new-then-not-good.ensures

pub priced-requires : goal.priced-requires
priced-requires c =
    let good = found-good _ _ _ _ c.good.ensures c.if-not-good.false-raw in
    omega (arith, good.c-tmin, good.tmin-tmax, good.tmax-most)

pub share_at-requires : goal.share_at-requires
share_at-requires c = rw c.priced.ensures (found-good _ _ _ _ c.good.ensures c.if-not-good.false-raw)

pub returns : goal.returns
unfolding share_at
returns c =
    shared-good _ _ _ _ _ c.good.ensures c.if-not-good.false-raw _ c.priced.ensures c.share_at.ensures.is
