-- `office_sheet::put_unfilled` meets its contract: the sheet is never refused. Assumes nothing.
use Rattle.office_sheet.proofs.Entering.{sheet-written}
use Rattle.office_sheet.proofs.put_unfilled.Goals as goal

pub returns : goal.returns
returns c =
    sheet-written c.args.policy c.args.m c.args.table c.requires.0 _ _ c.requires.1 _
    (rw (c.new-settings.ensures, c.from.ensures) at c.write.ensures)
