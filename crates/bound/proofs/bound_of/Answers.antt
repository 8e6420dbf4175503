-- `bound::bound_of` meets its contract: the code's table is the definition's. Assumes nothing.
use Rattle.ground.proofs.Kit.{refl}
use Rattle.bound.specs.Bound.{bounds, bound_of}
use Rattle.bound.proofs.bound_of.Goals as goal

pub returns : goal.returns
unfolding bounds bound_of
returns c = refl
