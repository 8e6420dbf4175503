-- `eelbasket::eelbasket_plain` meets its contract: what it tells of the table of the lent records, it tells of the records. Assumes nothing.
use Rattle.c_numbers.specs.Numbers.{station_settings}
use Rattle.eelbasket.proofs.Bridge.{told-meets-over}
use Rattle.eelbasket.proofs.eelbasket_plain.Goals as goal

pub returns : goal.returns
returns c =
    let args = c.args in
    told-meets-over (station_settings args.station) args.rows.now args.periods.now args.processors.now _ _ _ (rw c.gather.ensures at c.plain_told.ensures)
