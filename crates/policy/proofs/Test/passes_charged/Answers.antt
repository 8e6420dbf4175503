-- `policy::Test::passes_charged` meets its contract. Assumes nothing.
use Rattle.ground.proofs.Kit.{sym, ◌∙◌, arith}
use Rattle.policy.proofs.Tests.{too_much, passes_same}
use Rattle.policy.proofs.Weighing.{charges-loads, charges-low}
use Rattle.policy.proofs.Test.passes_charged.Goals as goal

pub returns-then-most_sum-sum : goal.returns-then-most_sum-sum
returns-then-most_sum-sum c =
    let test = c.args.self in
    let summed = c.charge_sum-sum.ensures in
    let most = rw summed.loaded.beside.count at c.most_sum.ensures in (
      sym (too_much test.policy test.m _ _ test.few test.served (omega (arith, c.if-most_sum-sum.true, most, summed.sum_is))),
      charges-low _ _ _ _ c.requires summed.loaded,
      summed.loaded.beside,
    )

pub passes-requires : goal.passes-requires
passes-requires c = charges-loads _ _ _ _ c.requires c.charge_sum-sum.ensures.loaded

pub returns : goal.returns
returns c =
    let loaded = c.charge_sum-sum.ensures.loaded in
    ((rw loaded.beside.count at c.passes.ensures) ∙ passes_same _ _ _ _ _ loaded.are, charges-low _ _ _ _ c.requires loaded, loaded.beside)
