-- `policy::Weights::hold_summed` meets its contract. Assumes nothing.
use Rattle.ground.proofs.Kit.{sym, ◌∙◌, arith}
use Rattle.policy.proofs.Weighing.{weighed-worked-out, weighed-too-much, weighed-sum}
use Rattle.policy.proofs.Weights.hold_summed.Goals as goal

pub returns-then-self-sum : goal.returns-then-self-sum
returns-then-self-sum c = sym (weighed-too-much c.args.self _ _ (omega (arith, c.if-self-sum.true, c.requires.2)))

pub returns-then-self-eq0 : goal.returns-then-self-eq0
returns-then-self-eq0 c =
    sym (weighed-sum c.args.self _ _ c.if-self-eq0.true (omega (arith, c.if-self-sum.false, c.requires.2)))

pub returns : goal.returns
returns c = c.hold.ensures ∙ weighed-worked-out _ _ _ _ _ c.of.ensures
