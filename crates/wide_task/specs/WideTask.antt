-- A task that needs several cores, a list of them, and a table.
-- Assumes nothing.
use Rattle.std.specs.Prelude.{ℕ, ◌*◌, ◌≤◌, ◌<◌, Bool, List, leb, ltb, length, get_or}
use Rattle.ground.specs.Choice.{both}
use Rattle.ground.specs.Laid.{padded}
use Rattle.kinds.specs.Limits.{longest_period, greatest_elasticity, most_tasks}
use Rattle.wide_task.specs.declared.WideTask.{WideTask}
use Rattle.wide_task.specs.declared.WideTable.{WideTable}
use Rattle.wide_task.specs.Limits.{most_tmins}

abbrev pub wide_task : ℕ → ℕ → ℕ → ℕ → ℕ → WideTask
wide_task c l tmin tmax e = record { c = c; l = l; tmin = tmin; tmax = tmax; e = e }

-- an unused place
abbrev pub no_wide_task : WideTask
no_wide_task = wide_task 0 0 0 0 0

-- the record number i
abbrev pub at : List WideTask → ℕ → WideTask
at rows i = get_or rows i no_wide_task

abbrev pub table : List WideTask → ℕ → WideTable
table rows n = record { rows = rows; n = n }

-- as many of these rows as a table takes, zeros in the unused places, and a count
abbrev pub table_with : List WideTask → ℕ → WideTable
table_with rows n = table (padded no_wide_task most_tasks rows) n

-- the count is the list's length, also above the most tasks
abbrev pub table_of : List WideTask → WideTable
table_of rows = table_with rows (length rows)

-- Ask 4: "1 ≤ L < Tmin, L < C, Tmax < C, C at most 16 × Tmin, and Tmax and E as in 01"
pub record Good (t : WideTask) : Type 0 where
  pub l-some : 1 ≤ t.l
  pub l-tmin : t.l < t.tmin
  pub l-c : t.l < t.c
  pub tmax-c : t.tmax < t.c
  pub c-most : t.c ≤ most_tmins * t.tmin
  pub tmin-tmax : t.tmin ≤ t.tmax
  pub tmax-most : t.tmax ≤ longest_period
  pub e-most : t.e ≤ greatest_elasticity

-- the same as a test
unfoldable pub is_good : WideTask → Bool
is_good t =
    both (both (both (both (both (both (both
    (leb 1 t.l)
    (ltb t.l t.tmin))
    (ltb t.l t.c))
    (ltb t.tmax t.c))
    (leb t.c (most_tmins * t.tmin)))
    (leb t.tmin t.tmax))
    (leb t.tmax longest_period))
    (leb t.e greatest_elasticity)
