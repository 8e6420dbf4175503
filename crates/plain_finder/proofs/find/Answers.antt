-- `plain_finder::find` meets its contract. Assumes nothing.
use Rattle.ground.proofs.Kit.{true, ◌≡◌, rules, Ok, Err}
use Rattle.outcome.proofs.Found.{may-grant, meets}
use Rattle.outcome.proofs.Searches.{refused-meets}
use Rattle.plain_finder.proofs.find.Goals as goal

pub returns-in_err-step : goal.returns-in_err-step
returns-in_err-step c =
    let e : c.from_residual.result ≡ Err c.in_err-step.field-0.0 = search rules in
    rw e (refused-meets true _ _ _ _ _ _ (rw c.in_err-step.was at c.find_step.ensures.0) _ _ c.min-room.ensures)

pub grant-requires : goal.grant-requires
grant-requires c = may-grant true (Ok c.in_ok-step.step) _ c.args.table.rows _ _ _ _ (rw (c.in_ok-step.was, c.min-room.ensures) at c.find_step.ensures.0)

pub returns : goal.returns
returns c = meets true _ _ _ _ _ _ _ (rw (c.in_ok-step.was, c.min-room.ensures) at c.find_step.ensures.0) _ _ c.grant.ensures.0
