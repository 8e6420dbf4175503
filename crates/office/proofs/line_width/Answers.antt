-- `office::line_width` meets its contract. Assumes nothing.
use Rattle.ground.proofs.Kit.{arith}
use Rattle.office.proofs.Widths.{line-long}
use Rattle.office.proofs.line_width.Goals as goal

pub returns : goal.returns
returns c =
    let long = line-long c.args.task in record { is = omega arith; few = omega arith }
