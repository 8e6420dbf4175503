-- `policy::Weights::hold_charged` meets its contract. Assumes nothing.
use Rattle.ground.proofs.Kit.{◌∙◌}
use Rattle.policy.proofs.Weighing.{charged-weighed, charges-loads, charges-low, summed-loads}
use Rattle.policy.proofs.Weights.hold_charged.Goals as goal

pub hold_summed-requires : goal.hold_summed-requires
hold_summed-requires c = (c.requires.0, charges-loads _ _ _ _ c.requires.1 c.charge_sum-sum.ensures.loaded, summed-loads _ _ _ _ c.charge_sum-sum.ensures)

pub returns : goal.returns
returns c =
    let loaded = c.charge_sum-sum.ensures.loaded in
    (c.hold_summed.ensures ∙ charged-weighed _ _ _ _ loaded, charges-low _ _ _ _ c.requires.1 loaded, loaded.beside)
