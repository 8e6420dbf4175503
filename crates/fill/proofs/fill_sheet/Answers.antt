-- `fill::fill_sheet` meets its contract: each `return` is one law of `Plans`. Assumes nothing.
use Rattle.ground.proofs.Kit.{refl, sym, ◌∙◌}
use Rattle.fill.proofs.Plans.{refused_by, accepted_by, plan-refused, plan-few, plan-filled}
use Rattle.fill.proofs.fill_sheet.Goals as goal

pub returns-then-is_err : goal.returns-then-is_err
returns-then-is_err c =
    let refused = refused_by c.find-answer.result (sym c.is_err.ensures.value ∙ c.if-is_err.true) in
    plan-refused c.args.x _ _ _ _ refl refl c.find-answer.result c.find-answer.ensures refused.0 refused.1

pub results_of-results-requires : goal.results_of-results-requires
results_of-results-requires c =
    let accepted = accepted_by c.find-answer.result (sym c.is_err.ensures.value ∙ c.if-is_err.false) in
    plan-few c.args.x _ _ _ _ refl refl c.find-answer.result c.find-answer.ensures accepted.0 accepted.1

pub returns : goal.returns
returns c =
    let accepted = accepted_by c.find-answer.result (sym c.is_err.ensures.value ∙ c.if-is_err.false) in
    plan-filled c.args.x _ _ _ _ refl refl c.find-answer.result c.find-answer.ensures accepted.0 accepted.1 _ c.results_of-results.ensures
