-- `filled_sheet::tell_accepted` meets its contract. Assumes nothing.
use Rattle.ground.proofs.Kit.{refl, rules}
use Rattle.std.proofs.lemmas.Result.{err_from_is_err_and}
use Rattle.refusal_line.proofs.Fronts.{put-fronts}
use Rattle.filled_sheet.proofs.Lines.{accepted-line, refused-line}
use Rattle.filled_sheet.proofs.tell_accepted.Goals as goal

pub returns-in_err-check : goal.returns-in_err-check
returns-in_err-check c =
    let exit = err_from_is_err_and c.from_residual.result c.from_residual.ensures.1 in
    rw (exit.1, exit.2) (refused-line _ _ c.in_err-check.ensures _ refl, refl)

pub returns : goal.returns
returns c =
    rw (accepted-line _ _ c.in_ok-check.ensures refl) (put-fronts (search rules) c.put_bytes.ensures)
