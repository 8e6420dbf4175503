-- `eelbasket::eelbasket_wide` meets its contract: what it tells of the table of the lent records, it tells of the records. Assumes nothing.
use Rattle.eelbasket.proofs.Bridge.{told-wide-over}
use Rattle.eelbasket.proofs.eelbasket_wide.Goals as goal

pub returns : goal.returns
returns c =
    let args = c.args in
    told-wide-over args.m args.rows.now args.periods.now args.cores.now _ _ _ (rw c.gather_wide.ensures at c.wide_told.ensures)
