-- `policy::Test::passes` meets its contract. Assumes nothing.
use Rattle.ground.proofs.Kit.{refl, sym, ◌∙◌}
use Rattle.policy.proofs.Tests.{passes-worked-out, first-fit-passes}
use Rattle.policy.proofs.Test.passes.Goals as goal

pub returns-then-is_first_fit : goal.returns-then-is_first_fit
returns-then-is_first_fit c =
    c.first_fit-trial.ensures.placed ∙ sym (first-fit-passes _ _ _ _ (sym c.is_first_fit.ensures ∙ c.if-is_first_fit.true))

pub returns : goal.returns
returns c =
    let served = c.args.self.served (sym c.is_first_fit.ensures ∙ c.if-is_first_fit.false) in
    c.hold.ensures ∙ passes-worked-out _ _ _ _ _ _ _ _ served c.weights.ensures.0 c.of.ensures refl
