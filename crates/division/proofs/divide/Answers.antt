-- `division::divide` meets its contract. Assumes nothing.
use Rattle.ground.proofs.Kit.{◌-◌, ◌+◌, ◌≤◌, ◌<◌, ◌≡◌, arith}
use Rattle.springs.specs.Springs.{spring_in}
use Rattle.division.specs.Division.{divided}
use Rattle.division.proofs.Stretches.{something-falls, divided-worked-out}
use Rattle.division.proofs.divide.Goals as goal
use Rattle.division.proofs.divide.Goals.{After-needed-more}

-- the least step, by whether the need ends before q
least : (c : After-needed-more) → let args = c.args in
    let more = c.needed-more.result in
    let step = divided args.w (spring_in args.springs.now) args.springs.now.n args.p args.q in
    (more < args.q - args.p → args.p + more ≡ step) × (args.q - args.p ≤ more → args.q ≡ step)
least c =
    let springs = spring_in c.args.springs.now in
    divided-worked-out _ springs _ _ _ _ _ _ c.requires.2.above c.requires.3.is c.slope_sum-fall.ensures.is c.needed-more.ensures

pub invariant_of-stretch : goal.invariant_of-stretch
invariant_of-stretch c =
    let s = c.args.springs.now in
    let falls = c.slope_sum-fall.ensures in
    record {
      light = c.requires.0;
      sum_most = omega (arith, c.requires.3.most, s.few);
      fall_some = omega (arith, falls.is, something-falls (spring_in s) _ _ _ c.requires.2);
      fall_most = omega (arith, falls.most, s.few);
    }

pub returns-then-more-from : goal.returns-then-more-from
returns-then-more-from c = (least c.before.before).0 (omega (arith, c.from.ensures, c.if-more-from.true))

pub returns : goal.returns
returns c = (least c.before.before).1 (omega (arith, c.from.ensures, c.if-more-from.false))
