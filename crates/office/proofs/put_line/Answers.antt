-- `office::put_line` meets its contract: four runs, one after the other. Assumes nothing.
use Rattle.ground.proofs.Kit.{arith}
use Rattle.office.proofs.Widths.{line-sum, puts-line}
use Rattle.office.proofs.put_line.Goals as goal

pub put_number-at_tmin-requires : goal.put_number-at_tmin-requires
put_number-at_tmin-requires c = omega (arith, line-sum c.args.task)

pub put_number-at_tmax-requires : goal.put_number-at_tmax-requires
put_number-at_tmax-requires c = omega (arith, line-sum c.args.task)

pub put_number-at_e-requires : goal.put_number-at_e-requires
put_number-at_e-requires c =
    omega (arith, line-sum c.args.task)

pub put_number-requires : goal.put_number-requires
put_number-requires c =
    omega (arith, line-sum c.args.task)

pub returns : goal.returns
returns c =
    puts-line _ _ _ _ _ _ _ _ _ _ _
    c.put_number-at_tmin.ensures
    c.put_number-at_tmax.ensures
    c.put_number-at_e.ensures
    c.put_number.ensures
