-- `plain_finder::find_step` meets its contract. Assumes nothing.
use Rattle.ground.proofs.Kit.{true, ◌≡◌, rules, Err}
use Rattle.springs.proofs.Columns.{workable-beside}
use Rattle.outcome.proofs.Searches.{refused-sprung, may-search, found-sprung}
use Rattle.plain_finder.proofs.Stepping.{step-found}
use Rattle.plain_finder.proofs.find_step.Goals as goal

pub returns-in_err-admit : goal.returns-in_err-admit
returns-in_err-admit c =
    let e : c.from_residual.result ≡ Err c.in_err-admit.field-0.0 = search rules in
    rw e (refused-sprung true _ _ _ _ _ _ (rw c.in_err-admit.was at c.admit.ensures.0), c.admit.ensures.1)

pub least_step-requires : goal.least_step-requires
least_step-requires c = may-search true _ _ _ _ _ _ c.admit.ensures.0 c.in_ok-admit.was

pub returns : goal.returns
returns c =
    let args = c.args in
    let searched = c.least_step.ensures.0 in
    let step = step-found args.settings args.table.now.rows args.table.now.n _ _ (c.admit.ensures.0.sprung c.in_ok-admit.was) _ searched in (
      found-sprung true _ _ _ _ _ _ c.admit.ensures.0 c.in_ok-admit.was _ searched.beside _ step _ c.ok_or.ensures.value,
      λ h. workable-beside _ _ searched.beside c.least_step.ensures.1 (c.admit.ensures.1 h),
    )
