-- `filled_sheet::check_plan` meets its contract: each way out is one law of `Compared`. Assumes nothing.
use Rattle.ground.proofs.Kit.{refl}
use Rattle.std.proofs.lemmas.Result.{err_from_is_err_and}
use Rattle.filled_sheet.proofs.Compared.{plan-refuses, without-results, some-unlike, none-unlike_there, one-differs, all-agree}
use Rattle.filled_sheet.proofs.check_plan.Goals as goal

pub returns-in_err-plan : goal.returns-in_err-plan
returns-in_err-plan c =
    let exit = err_from_is_err_and c.from_residual.result c.from_residual.ensures.1 in
    rw (exit.1, exit.2) (plan-refuses c.args.x c.args.plan _ c.in_err-plan.was)

pub returns-then-x : goal.returns-then-x
returns-then-x c = without-results c.args.x c.args.plan _ c.in_ok-plan.was c.if-x.true

pub returns-in-Some : goal.returns-in-Some
returns-in-Some c =
    let found = some-unlike c.args.x.results.rows c.args.plan.sheet.results.rows c.args.x.table.n _ c.in-Some.ensures in
    one-differs c.args.x c.args.plan _ c.in_ok-plan.was c.if-x.false _ found.0 found.1

pub returns-in-None : goal.returns-in-None
returns-in-None c =
    all-agree c.args.x c.args.plan _ c.in_ok-plan.was c.if-x.false _ refl (none-unlike_there c.args.x.results.rows c.args.plan.sheet.results.rows c.args.x.table.n c.in-None.ensures)
