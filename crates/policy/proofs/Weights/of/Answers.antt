-- `policy::Weights::of` meets its contract. Assumes nothing.
use Rattle.ground.proofs.Kit.{refl, arith}
use Rattle.bound.proofs.Bounds.{bound-high}
use Rattle.policy.proofs.Weights.of.Goals as goal

pub returns-in-OneCoreRm : goal.returns-in-OneCoreRm
returns-in-OneCoreRm c =
    rw (c.in-OneCoreRm.is, c.bound_of.ensures) (refl, omega (arith, bound-high c.args.n))
