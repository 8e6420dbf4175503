-- `springs::Spring::share` meets its contract. Assumes nothing.
use Rattle.ground.proofs.Kit.{arith, sym}
use Rattle.springs.proofs.Shares.{share-before, share-after, share-stays}
use Rattle.springs.proofs.Spring.share.Goals as goal

pub overflow_mul-result : goal.overflow_mul-result
overflow_mul-result c =
    omega (arith, (share-before _ c.requires _ c.if-k-self.true).0, c.requires.largest-most)

pub overflow_sub-result : goal.overflow_sub-result
overflow_sub-result c =
    omega (arith, (share-before _ c.requires _ c.if-k-self.true).0)

pub returns-then-k-self : goal.returns-then-k-self
returns-then-k-self c =
    let shared = (share-before _ c.requires _ c.if-k-self.true).1 in
    (sym shared, omega (arith, c.requires.largest-most))

pub returns-then-self-eq0 : goal.returns-then-self-eq0
returns-then-self-eq0 c =
    (sym (share-stays _ c.requires _ c.if-self-eq0.true), c.requires.largest-most)

pub returns : goal.returns
returns c =
    let shared = share-after _ c.requires c.args.k (omega (arith, c.if-k-self.false)) (omega (arith, c.if-self-eq0.false)) in
    (sym shared, omega (arith, c.requires.least-largest, c.requires.largest-most))
