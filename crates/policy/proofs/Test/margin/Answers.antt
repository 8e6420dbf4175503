-- `policy::Test::margin` meets its contract. Assumes nothing.
use Rattle.ground.proofs.Kit.{◌∙◌, rules}
use Rattle.policy.proofs.Tests.{margin-worked-out}
use Rattle.policy.proofs.Test.margin.Goals as goal

pub returns : goal.returns
returns c =
    let worked = margin-worked-out _ _ _ _ _ _ _ _ c.requires.1 c.weights-w.ensures.0 c.of-total.ensures c.left.ensures.is in
    search rules ∙ (c.difference.ensures ∙ worked)
