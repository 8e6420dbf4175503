-- `quick_finder::look` meets its contract. Assumes nothing.
use Rattle.ground.proofs.Kit.{refl, ◌∙◌}
use Rattle.policy.proofs.Weighing.{weighed-worked-out}
use Rattle.quick_finder.proofs.look.Goals as goal

pub returns : goal.returns
returns c =
    let total = c.at-total.ensures in (
      record {
        step = c.requires.3;
        due = c.requires.4;
        from = refl;
        tested = c.hold-passed.ensures ∙ weighed-worked-out _ _ _ _ _ total;
        count = refl;
      },
      total.added,
    )
