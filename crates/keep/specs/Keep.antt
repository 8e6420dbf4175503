-- Ask 6: what a join and a leave hand back, for every table, index and call.
-- Assumes nothing.
use Rattle.std.specs.Prelude.{ℕ, ◌+◌, ◌-◌, List, eqb, leb, ltb, Ok, Err}
use Rattle.ground.specs.Choice.{pick}
use Rattle.ground.specs.Laid.{padded_to}
use Rattle.kinds.specs.declared.Task.{Task}
use Rattle.kinds.specs.declared.Table.{Table}
use Rattle.kinds.specs.declared.Index.{Index}
use Rattle.kinds.specs.declared.Refusal.TheVariants.{Misset, TooManyTasks, NoSuchRecord}
use Rattle.kinds.specs.Answer.{Handed, accepted, refused, check, handed_with, Verdict}
use Rattle.kinds.specs.Limits.{most_tasks}
use Rattle.kinds.specs.Task.{at, no_task, table}
use Rattle.admission.specs.Admission.{and_then, records_good}
use Rattle.order.specs.Gone.{left_from}
use Rattle.order.specs.Index.{index_under}
use Rattle.keep.specs.declared.Kept.{Kept}
use Rattle.keep.specs.declared.Changed.{Changed}

abbrev pub kept : Table → Index → Kept
kept t x = record { table = t; index = x }

-- a table, and beside it the index worked out afresh, where a swap costs w
abbrev pub fresh : ℕ → List Task → ℕ → Kept
fresh w rows n = kept (table rows n) (index_under w rows n)

-- "A task joins at the end of the table": record i afterwards
abbrev pub joined_row : List Task → ℕ → Task → ℕ → Task
joined_row rows n t i = pick (ltb i n) (at rows i) t

-- "or leaves from any place, and later records move down by one": record i afterwards
abbrev pub left_row : List Task → ℕ → ℕ → Task
left_row rows place i = at rows (left_from place i)

-- the records afterwards, "with zeros past their ends"
unfoldable pub joined_rows : List Task → ℕ → Task → List Task
joined_rows rows n t = padded_to no_task most_tasks (joined_row rows n t) (n + 1)

unfoldable pub left_rows : List Task → ℕ → ℕ → List Task
left_rows rows n place = padded_to no_task most_tasks (left_row rows place) (n - 1)

-- "q = 0 is refused by 2 first"; "a join to 32 tasks, or any change of a table said to hold more, is refused by 3 at that count; then a
-- bad record, in the table or (at the count) joining, by 6"
unfoldable pub may_join : ℕ → ℕ → List Task → ℕ → Task → Verdict
may_join w q rows n t =
    check (eqb q 0) (Err Misset)
    (check (leb most_tasks n) (Err (TooManyTasks n))
    (records_good w q (joined_rows rows n t) (n + 1)))

-- "then a leave of a record that is not there by 12 at its number"
unfoldable pub may_leave : ℕ → ℕ → List Task → ℕ → ℕ → Verdict
may_leave w q rows n place =
    check (eqb q 0) (Err Misset)
    (check (ltb most_tasks n) (Err (TooManyTasks n))
    (and_then (records_good w q rows n) (check (leb n place) (Err (NoSuchRecord place)) (Ok tt))))

-- "A refused change alters nothing"
abbrev pub changed : Verdict → Kept → Kept → Handed Kept
changed (Ok _) old new = accepted new
changed (Err r) old new = refused old r

-- number, place, and what is kept after a join, and after a leave
unfoldable pub joined : ℕ → ℕ → Kept → Task → Handed Kept
joined w q k t =
    let rows = k.table.rows in
    let n = k.table.n in
    changed (may_join w q rows n t) k (fresh w (joined_rows rows n t) (n + 1))

unfoldable pub left : ℕ → ℕ → Kept → ℕ → Handed Kept
left w q k place =
    let rows = k.table.rows in
    let n = k.table.n in
    changed (may_leave w q rows n place) k (fresh w (left_rows rows n place) (n - 1))

-- a change in document 01's numbers, with what is kept beside its verdict
abbrev pub handed_change : Changed → Handed Kept
handed_change r = handed_with r.answer r.kept
