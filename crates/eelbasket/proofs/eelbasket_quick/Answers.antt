-- `eelbasket::eelbasket_quick` meets its contract: what it tells of the table of the lent records, it tells of the records. Assumes nothing.
use Rattle.c_numbers.specs.Numbers.{station_settings}
use Rattle.eelbasket.proofs.Bridge.{told-looked-over}
use Rattle.eelbasket.proofs.eelbasket_quick.Goals as goal

pub returns : goal.returns
returns c =
    let args = c.args in
    told-looked-over (station_settings args.station) args.rows.now args.periods.now args.processors.now _ _ _ (rw c.gather.ensures at c.quick_told.ensures)
