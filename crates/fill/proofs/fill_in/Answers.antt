-- `fill::fill_in` meets its contract. Assumes nothing.
use Rattle.fill.proofs.Fills.{refuses}
use Rattle.fill.proofs.Plans.{filling-refused, filling-written}
use Rattle.fill.proofs.Readings.{reading-refused, reading-accepted}
use Rattle.ground.proofs.Kit.{◌∙◌, rules}
use Rattle.std.proofs.lemmas.Result.{err_from_is_err_and}
use Rattle.sheet.proofs.Handed.{reading-taken}
use Rattle.fill.proofs.fill_in.Goals as goal

pub returns-in_err-reading : goal.returns-in_err-reading
returns-in_err-reading c =
    let exit = err_from_is_err_and c.from_residual.result c.from_residual.ensures.1 in
    rw (exit.1, exit.2) (refuses _ _ (reading-refused _ _ c.read-reading.ensures _ c.in_err-reading.was) _)

pub returns-in_err-plan : goal.returns-in_err-plan
returns-in_err-plan c =
    let exit = err_from_is_err_and c.from_residual-in_err-plan.result c.from_residual-in_err-plan.ensures.1 in
    let reads = reading-accepted _ _ c.read-reading.ensures c.in_ok-reading.was in
    rw (exit.1, exit.2) (refuses _ _ (reads ∙ filling-refused _ _ c.fill_sheet-plan.ensures _ c.in_err-plan.was) _)

pub returns : goal.returns
returns c =
    let read = c.read-reading.ensures in
    let taken = reading-taken _ _ read c.in_ok-reading.was in
    rw (reading-accepted _ _ read c.in_ok-reading.was)
    (filling-written _ _ c.fill_sheet-plan.ensures _ c.in_ok-plan.was taken _ _ _ c.write.ensures (search rules))
