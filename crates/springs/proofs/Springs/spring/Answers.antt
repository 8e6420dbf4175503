-- `springs::Springs::spring` meets its contract. Assumes nothing.
use Rattle.ground.proofs.Kit.{refl}
use Rattle.springs.specs.Springs.{spring_in}
use Rattle.springs.proofs.Springs.spring.Goals as goal

pub returns : goal.returns
unfolding spring_in
returns c = refl
