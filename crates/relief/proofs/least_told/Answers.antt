-- `relief::least_told` meets its contract. Assumes nothing.
use Rattle.ground.proofs.Kit.{◌∙◌, ap}
use Rattle.relief.specs.Relief.{told_step, least_told}
use Rattle.relief.proofs.Telling.{step-low}
use Rattle.relief.proofs.least_told.Goals as goal

pub tell-requires : goal.tell-requires
tell-requires c = step-low _ _ _ _ c.decide.result c.decide.ensures

pub returns : goal.returns
unfolding least_told
returns c = c.tell.ensures ∙ ap told_step c.decide.ensures
