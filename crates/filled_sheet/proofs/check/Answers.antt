-- `filled_sheet::check` meets its contract. Assumes nothing.
use Rattle.ground.proofs.Kit.{◌∙◌}
use Rattle.std.proofs.lemmas.Result.{err_from_is_err_and}
use Rattle.filled_sheet.proofs.Compared.{checked-by}
use Rattle.filled_sheet.proofs.Readings.{unread, read}
use Rattle.filled_sheet.proofs.check.Goals as goal

pub returns-in_err-reading : goal.returns-in_err-reading
returns-in_err-reading c =
    let exit = err_from_is_err_and c.from_residual.result c.from_residual.ensures.1 in
    rw (exit.1, exit.2) (unread _ _ c.read-reading.ensures _ c.in_err-reading.was)

pub returns : goal.returns
returns c =
    c.check_plan.ensures ∙ (checked-by _ _ c.fill_sheet.ensures ∙ read _ _ c.read-reading.ensures c.in_ok-reading.was)
