-- `sheet::row::Row::put` of a task record meets its contract. Assumes nothing.
use Rattle.field.proofs.Stores.{put_then}
use Rattle.sheet.specs.Rows.{task_bytes}
use Rattle.sheet.proofs.row.TaskRow.put.Goals as goal

pub returns : goal.returns
unfolding task_bytes
returns c =
    put_then c.put-at_tmin.ensures (put_then c.put-at_tmax.ensures (put_then c.put-at_e.ensures c.put.ensures))
