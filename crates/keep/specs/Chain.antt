-- Ask 6: the checks of a join and of a leave, with the sentence of each number, in their order.
-- Assumes nothing.
use Rattle.std.specs.Prelude.{ℕ, ◌+◌, List, [], ◌∷◌, eqb, leb, ltb}
use Rattle.kinds.specs.declared.Task.{Task}
use Rattle.kinds.specs.declared.Refusal.TheVariants.{Misset, TooManyTasks, BadRecord, NoSuchRecord}
use Rattle.kinds.specs.Limits.{most_tasks}
use Rattle.kinds.specs.Chain.{Check, ◌when◌}
use Rattle.share.specs.Table.{first_bad}
use Rattle.keep.specs.Keep.{joined_rows}

-- "q = 0 is refused by 2 first"; "a join to 32 tasks, or any change of a table said to hold more, .. by 3 at that count"; "then a bad record, in
-- the table or (at the count) joining, by 6"
abbrev pub join_chain : ℕ → ℕ → List Task → ℕ → Task → List Check
join_chain w q rows n t =
    let bad = first_bad w q (joined_rows rows n t) (n + 1) in
    Misset when eqb q 0
    ∷ TooManyTasks n when leb most_tasks n
    ∷ BadRecord bad when ltb bad (n + 1)
    ∷ []

-- the same of a leave, "then a leave of a record that is not there by 12 at its number"
abbrev pub leave_chain : ℕ → ℕ → List Task → ℕ → ℕ → List Check
leave_chain w q rows n place =
    let bad = first_bad w q rows n in
    Misset when eqb q 0
    ∷ TooManyTasks n when ltb most_tasks n
    ∷ BadRecord bad when ltb bad n
    ∷ NoSuchRecord place when leb n place
    ∷ []
