-- `office::put_text` meets its contract. Assumes nothing.
-- The loop: the lines so far are stored at the front, and nothing else.
use Rattle.ground.proofs.Kit.{◌+◌, refl, ◌∙◌, arith, length}
use Rattle.ground.proofs.Joins.{join-longer, join-within}
use Rattle.field.proofs.Stores.{put-long, put-no-run, put-run}
use Rattle.office.specs.Text.{row_line}
use Rattle.office.proofs.put_text.Goals as goal

pub loop-row-init : goal.loop-row-init
loop-row-init c = (refl, put-no-run _ _ _)

pub put_line-at-requires : goal.put_line-at-requires
put_line-at-requires c =
    let rows = c.args.rows.now in
    let next = c.loop-row.row-index + 1 in
    omega (arith, join-longer (row_line rows) c.loop-row.row-index, join-within (row_line rows) next (length rows) (omega arith))

pub loop-row-preserved : goal.loop-row-preserved
loop-row-preserved c =
    let so_far = c.loop-row.invariant in
    let line = c.put_line-at.ensures in
    (put-long line ∙ so_far.0, put-run (row_line c.args.rows.now) c.loop-row.row-index so_far.1 line)
