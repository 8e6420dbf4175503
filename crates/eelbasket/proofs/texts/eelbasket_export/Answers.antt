-- `eelbasket::texts::eelbasket_export` meets its contract: what it tells of the table of the lent records, it tells of the records. Assumes nothing.
use Rattle.eelbasket.proofs.Bridge.{told-exports-over}
use Rattle.eelbasket.proofs.texts.eelbasket_export.Goals as goal

pub returns : goal.returns
returns c =
    let args = c.args in
    told-exports-over args.rows.now args.out.now _ _ (rw c.gather.ensures at c.export_told.ensures)
