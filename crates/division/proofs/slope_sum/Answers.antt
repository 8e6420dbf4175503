-- `division::slope_sum` meets its contract. The loop: the fall of the first i shares is at hand; n − i falls. Assumes nothing.
use Rattle.ground.proofs.Kit.{◌≤◌, ◌≡◌, ◌∙◌, arith}
use Rattle.ground.proofs.Folds.{added_none, added_more}
use Rattle.kinds.specs.Limits.{greatest_elasticity}
use Rattle.springs.specs.Springs.{spring_in}
use Rattle.division.specs.Division.{slope}
use Rattle.division.proofs.slope_sum.Goals as goal
use Rattle.division.proofs.slope_sum.Goals.{After-from-fall}

-- the slope of task i, no greater than the greatest elasticity
sloped : (c : After-from-fall)
    → let args = c.args in
    (c.from-fall.result ≡ slope (spring_in args.springs.now c.loop-i.i) args.p) × (c.from-fall.result ≤ greatest_elasticity)
sloped c =
    let is = c.slope_of.ensures in
    (c.from-fall.ensures ∙ (rw c.spring.ensures at is.0), omega (arith, c.from-fall.ensures, is.1))

pub loop-i-init : goal.loop-i-init
loop-i-init c = added_none _ _

pub slope_of-requires : goal.slope_of-requires
slope_of-requires c = rw c.spring.ensures (c.requires c.loop-i.i (omega arith))

pub overflow_add-fall : goal.overflow_add-fall
overflow_add-fall c = omega (arith, (sloped c).1, c.loop-i.invariant.most)

pub loop-i-preserved : goal.loop-i-preserved
loop-i-preserved c = added_more _ _ _ _ _ c.loop-i.invariant (sloped c).0 (sloped c).1

pub returns : goal.returns
returns c =
    let all : c.loop-i.i ≡ c.args.springs.now.n = omega arith in
    rw all at c.loop-i.invariant
