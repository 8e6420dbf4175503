-- `office::text_width` meets its contract. Assumes nothing.
-- The loop: the lines so far are counted.
use Rattle.ground.proofs.Kit.{sym, ap, arith, length}
use Rattle.ground.proofs.Joins.{join-none, join-longer}
use Rattle.office.specs.Text.{row_line}
use Rattle.office.proofs.text_width.Goals as goal

pub loop-row-init : goal.loop-row-init
loop-row-init c = (ap length (sym (join-none (row_line c.args.rows.now))), omega arith)

pub loop-row-preserved : goal.loop-row-preserved
loop-row-preserved c =
    let longer = join-longer (row_line c.args.rows.now) c.loop-row.row-index in (omega arith, omega arith)
