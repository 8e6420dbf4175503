-- `eelbasket::eelbasket_relief` meets its contract: what it tells of the table of the lent records, it tells of the records. Assumes nothing.
use Rattle.c_numbers.specs.Numbers.{station_settings}
use Rattle.eelbasket.proofs.Bridge.{told-relief-over}
use Rattle.eelbasket.proofs.eelbasket_relief.Goals as goal

pub returns : goal.returns
returns c =
    let args = c.args in
    told-relief-over (station_settings args.station) args.rows.now args.without.now _ _ (rw c.gather.ensures at c.relief_told.ensures)
