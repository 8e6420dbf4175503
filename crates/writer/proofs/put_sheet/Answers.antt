-- `writer::put_sheet` meets its contract. Assumes nothing.
use Rattle.ground.proofs.Kit.{arith, length-take-le}
use Rattle.kinds.specs.Task.{no_task}
use Rattle.field.proofs.Stores.{put_then, put-sized}
use Rattle.sheet.specs.Rows.{no_granted, task_bytes, granted_bytes}
use Rattle.sheet.specs.Sections.{task_size, granted_size}
use Rattle.writer.specs.Encode.{encode}
use Rattle.writer.proofs.Rows.{put_front}
use Rattle.writer.proofs.put_sheet.Goals as goal

pub put-at_granted-requires : goal.put-at_granted-requires
put-at_granted-requires c =
    let x = c.args.x in
    let tasks = put_front task_bytes no_task task_size x.table.rows x.table.n (omega arith) (c.put_section-at_results.ensures no_task) in
    let end = tasks.next-is in
    omega arith

pub put_section-requires : goal.put_section-requires
put_section-requires c =
    let x = c.args.x in
    let tasks = put_front task_bytes no_task task_size x.table.rows x.table.n (omega arith) (c.put_section-at_results.ensures no_task) in
    let end = tasks.next-is in
    let all = length-take-le x.results.n x.results.rows (omega arith) in
    omega arith

pub returns : goal.returns
unfolding encode
returns c =
    let x = c.args.x in
    let tasks = put_front task_bytes no_task task_size x.table.rows x.table.n (omega arith) (c.put_section-at_results.ensures no_task) in
    let results = put_front granted_bytes no_granted granted_size x.results.rows x.results.n (omega arith) (c.put_section.ensures no_granted) in
    put-sized (omega arith)
    (put_then c.put_settings-at_count.ensures
    (put_then (put_then c.put-at_tasks.ensures tasks)
    (put_then c.put-at_granted.ensures results)))
