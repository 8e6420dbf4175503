-- `office_sheet::take_text` meets its contract. Assumes nothing.
use Rattle.ground.proofs.Kit.{refl, rules}
use Rattle.std.proofs.lemmas.Result.{err_from_is_err_and}
use Rattle.office_sheet.proofs.Taking.{table_taken, sheet-refused, sheet-taken}
use Rattle.office_sheet.proofs.take_text.Goals as goal

pub returns-in_err-reading : goal.returns-in_err-reading
returns-in_err-reading c =
    let exit = err_from_is_err_and c.from_residual.result c.from_residual.ensures.1 in
    rw (exit.1, exit.2) (sheet-refused _ _ c.read-reading.ensures _ c.in_err-reading.was, refl)

pub returns : goal.returns
returns c =
    rw (sheet-taken _ _ c.read-reading.ensures c.in_ok-reading.was) (table_taken _ _ (search rules) _ _ c.export.ensures)
