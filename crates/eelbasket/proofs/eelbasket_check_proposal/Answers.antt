-- `eelbasket::eelbasket_check_proposal` meets its contract: what it tells of the table of the lent records, it tells of the records. Assumes nothing.
use Rattle.c_numbers.specs.Numbers.{station_settings}
use Rattle.eelbasket.proofs.Bridge.{told-proposal-over}
use Rattle.eelbasket.proofs.eelbasket_check_proposal.Goals as goal

pub returns : goal.returns
returns c =
    let args = c.args in
    told-proposal-over (station_settings args.station) args.rows.now args.step args.proposal.now args.loads.now _ _
    (rw c.gather.ensures at c.check_proposal_told.ensures)
