-- `writer::write` meets its contract; the check finds each refusal from the definitions. Assumes nothing.
use Rattle.ground.proofs.Kit.{sym, arith}
use Rattle.sheet.proofs.Stages.{settings-few, fits-few}
use Rattle.writer.proofs.Answers.{wrote}
use Rattle.writer.proofs.write.Goals as goal

pub end_place-needed-requires : goal.end_place-needed-requires
end_place-needed-requires c =
    let few = c.if-n-gt-MOST_TASKS.false in
    let most = fits-few _ _ (sym c.if-not-results_fit.ensures) in
    (settings-few _ (sym c.if-not-settings_fit.ensures), (few, omega arith))

pub put_sheet-requires : goal.put_sheet-requires
put_sheet-requires c =
    let few = c.if-n-gt-MOST_TASKS.false in
    let most = fits-few _ _ (sym c.if-not-results_fit.ensures) in
    let room = rw c.end_place-needed.ensures at c.if-out-needed.false in
    (settings-few _ (sym c.if-not-settings_fit.ensures), (few, (omega arith, room)))

pub returns : goal.returns
returns c =
    let room = rw c.end_place-needed.ensures at c.if-out-needed.false in
    wrote _ _ (sym c.if-not-settings_fit.ensures) c.if-n-gt-MOST_TASKS.false (sym c.if-not-results_fit.ensures) room _ _ c.put_sheet.ensures
