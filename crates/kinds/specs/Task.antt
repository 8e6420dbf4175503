-- A task record, a list of them, and a table.
-- Assumes nothing.
use Rattle.std.specs.Prelude.{ℕ, ◌+◌, ◌*◌, ◌%◌, ◌≤◌, Bool, List, ◌≡◌, leb, eqb, length, get_or, replicate}
use Rattle.ground.specs.Choice.{both}
use Rattle.ground.specs.Laid.{padded}
use Rattle.kinds.specs.declared.Task.{Task}
use Rattle.kinds.specs.declared.Table.{Table}
use Rattle.kinds.specs.Limits.{longest_period, greatest_elasticity, most_tasks}

abbrev pub task : ℕ → ℕ → ℕ → ℕ → Task
task c tmin tmax e = record { c = c; tmin = tmin; tmax = tmax; e = e }

-- an unused place
abbrev pub no_task : Task
no_task = task 0 0 0 0

-- a table's places, none of them used
abbrev pub no_tasks : List Task
no_tasks = replicate most_tasks no_task

-- the record number i
abbrev pub at : List Task → ℕ → Task
at rows i = get_or rows i no_task

abbrev pub table : List Task → ℕ → Table
table rows n = record { rows = rows; n = n }

-- as many of these rows as a table takes, zeros in the unused places, and a count
abbrev pub table_with : List Task → ℕ → Table
table_with rows n = table (padded no_task most_tasks rows) n

-- the count is the list's length, also above the most tasks
abbrev pub table_of : List Task → Table
table_of rows = table_with rows (length rows)

-- Ask 2: "every C in shares, periods and the test C ≤ Tmin is to be read as C + 2w"
abbrev pub priced : ℕ → Task → Task
priced w t = task (t.c + 2 * w) t.tmin t.tmax t.e

-- document 01: "1 ≤ C ≤ Tmin ≤ Tmax ≤ 1,000,000,000 and 0 ≤ E ≤ 1,000,000", of a record whose C is the whole cost
pub record Good (t : Task) : Type 0 where
  pub c-some : 1 ≤ t.c
  pub c-tmin : t.c ≤ t.tmin
  pub tmin-tmax : t.tmin ≤ t.tmax
  pub tmax-most : t.tmax ≤ longest_period
  pub e-most : t.e ≤ greatest_elasticity

-- Ask 5: "Tmin and Tmax must be multiples of q", of a notch
pub record OnNotch (q : ℕ) (t : Task) : Type 0 where
  pub some : 1 ≤ q
  pub tmin-on : t.tmin % q ≡ 0
  pub tmax-on : t.tmax % q ≡ 0

-- a record keeps its limits where a swap costs w: 1 ≤ C, C + 2w ≤ Tmin ≤ Tmax, and the limits
unfoldable pub is_within : ℕ → Task → Bool
is_within w t =
    both (both (both (both
    (leb 1 t.c)
    (leb (t.c + 2 * w) t.tmin))
    (leb t.tmin t.tmax))
    (leb t.tmax longest_period))
    (leb t.e greatest_elasticity)

-- its Tmin and Tmax are multiples of q
abbrev pub is_on_notch : ℕ → Task → Bool
is_on_notch q t = both (eqb (t.tmin % q) 0) (eqb (t.tmax % q) 0)

-- a record is good where a swap costs w and a notch is q
unfoldable pub is_good : ℕ → ℕ → Task → Bool
is_good w q t = both (is_within w t) (is_on_notch q t)
