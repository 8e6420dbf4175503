-- `springs::Springs::push` meets its contract. Assumes nothing.
use Rattle.ground.proofs.Kit.{refl, arith}
use Rattle.springs.specs.Springs.{spring_in}
use Rattle.springs.proofs.Columns.{set_here, set_there}
use Rattle.springs.proofs.Springs.push.Goals as goal

pub returns : goal.returns
unfolding spring_in
returns c =
    let s = c.args.self.now in (
      record {
        count = refl;
        notch = refl;
        here =
            set_here s.largest s.least s.elasticity s.saturation s.cost s.tmin s.n c.args.spring
            (omega arith) (omega arith) (omega arith) (omega arith) (omega arith) (omega arith);
        there = λ j l. set_there s.largest s.least s.elasticity s.saturation s.cost s.tmin s.n c.args.spring j (λ e. omega arith);
      },
      refl,
    )
