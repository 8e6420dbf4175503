-- `eelbasket::eelbasket_margin` meets its contract: what it tells of the table of the lent records, it tells of the records. Assumes nothing.
use Rattle.ground.proofs.Kit.{◌∙◌}
use Rattle.c_numbers.specs.Numbers.{station_settings}
use Rattle.eelbasket.proofs.Bridge.{margin-over}
use Rattle.eelbasket.proofs.eelbasket_margin.Goals as goal

pub returns : goal.returns
returns c =
    let args = c.args in
    (rw c.gather.ensures at c.margin_told.ensures) ∙ margin-over (station_settings args.station) args.rows.now args.step
