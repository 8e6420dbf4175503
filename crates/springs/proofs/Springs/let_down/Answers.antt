-- `springs::Springs::let_down` meets its contract. The loop: the first i shares are let down, their sum is at hand, and nothing else has moved;
-- n − i falls. Assumes nothing.
use Rattle.ground.proofs.Kit.{ℕ, ◌≤◌, ◌≡◌, arith, get_or}
use Rattle.kinds.specs.Limits.{scale}
use Rattle.springs.specs.Spring.{let_down}
use Rattle.springs.specs.Springs.{spring_in}
use Rattle.springs.proofs.Shares.{let-down-most}
use Rattle.springs.proofs.Columns.{walked-none, walked-more, walked-all}
use Rattle.springs.proofs.Springs.let_down.Goals as goal
use Rattle.springs.proofs.Springs.let_down.Goals.{After-max-share}

-- the share that is let down is that of the springs as they came
down : (c : After-max-share) → let s = c.args.self.now in
    c.max-share.result ≡ let_down (spring_in s c.loop-i.i) (get_or s.loads c.loop-i.i 0)
unfolding spring_in
down c =
    let b = c.loop-i.invariant.loaded.beside in
    rw (c.saturating_sub.ensures, b.least, b.elasticity, c.loop-i.invariant.loaded.rest c.loop-i.i (omega arith)) at c.max-share.ensures

down-most : (c : After-max-share) → c.max-share.result ≤ scale
down-most c =
    let s = c.args.self.now in
    let i = c.loop-i.i in
    rw (down c) (let-down-most (spring_in s i) (c.requires.0 i (omega arith)) (get_or s.loads i 0) (c.requires.1 i (omega arith)))

pub loop-i-init : goal.loop-i-init
loop-i-init c = walked-none _ _

pub overflow_add-sum : goal.overflow_add-sum
overflow_add-sum c = omega (arith, down-most c.before, c.loop-i.invariant.added.most, c.loop-i.self.few)

pub loop-i-preserved : goal.loop-i-preserved
loop-i-preserved c =
    let s = c.args.self.now in
    walked-more (λ (j : ℕ). let_down (spring_in s j) (get_or s.loads j 0)) _ _ _ _ _ _ c.loop-i.invariant (omega arith) (omega arith) (down c.before) (down-most c.before)

pub returns : goal.returns
returns c = rw c.from.ensures (walked-all _ _ _ _ _ c.loop-i.invariant (omega arith))
