-- `wide_finder::Admitted::passes_at` meets its contract. Assumes nothing.
use Rattle.ground.proofs.Kit.{ap₂, leb}
use Rattle.wide_finder.specs.Table.{passes_at}
use Rattle.wide_finder.proofs.Admitted.passes_at.Goals as goal

pub returns : goal.returns
unfolding passes_at
returns c = ap₂ leb c.cores_sum.ensures.is (cc)
