-- The rows of a section: a setting, a task record, a result, and so many of them from a place on.
-- Assumes nothing.
use Rattle.std.specs.Prelude.{ℕ, ◌+◌, ◌*◌, ◌<◌, List, ◌++◌, Option, MatchOption, length, get_or, replicate}
use Rattle.ground.specs.Folds.{list_to, join_to}
use Rattle.ground.specs.Laid.{over}
use Rattle.kinds.specs.declared.Task.{Task}
use Rattle.kinds.specs.declared.Granted.{Granted}
use Rattle.kinds.specs.Limits.{most_tasks}
use Rattle.kinds.specs.Task.{task}
use Rattle.field.specs.Number.{u16_at, u32_at, bytes_of}
use Rattle.field.specs.Field.{Got}

abbrev pub granted : ℕ → ℕ → Granted
granted period processor = record { period = period; processor = processor }

-- an unused place
abbrev pub no_granted : Granted
no_granted = granted 0 0

-- the task record at a place: C, Tmin, Tmax, E, 4 bytes each
abbrev pub task_at : List ℕ → ℕ → Task
task_at s at = task (u32_at s at) (u32_at s (at + 4)) (u32_at s (at + 8)) (u32_at s (at + 12))

-- the result at a place: period 4 bytes, processor 2
abbrev pub granted_at : List ℕ → ℕ → Granted
granted_at s at = granted (u32_at s at) (u16_at s (at + 4))

-- "C, Tmin, Tmax, E, 4 bytes each"
unfoldable pub task_bytes : Task → List ℕ
task_bytes t = bytes_of 4 t.c ++ (bytes_of 4 t.tmin ++ (bytes_of 4 t.tmax ++ bytes_of 4 t.e))

-- "period 4 bytes, processor 2"
unfoldable pub granted_bytes : Granted → List ℕ
granted_bytes g = bytes_of 4 g.period ++ bytes_of 2 g.processor

-- the bytes of the first n rows
unfoldable pub rows_bytes : {A : Type 0} → (A → List ℕ) → A → List A → ℕ → List ℕ
rows_bytes bytes none rows n = join_to (λ i. bytes (get_or rows i none)) n

-- unused places only
abbrev pub no_results : List Granted
no_results = replicate most_tasks no_granted

-- the n rows of a size that stand from a place on, over what stands for those that are left out
abbrev pub rows_at : {A : Type 0} → List A → ℕ → (List ℕ → ℕ → A) → List ℕ → ℕ → ℕ → List A
rows_at rest size row_at s from n = over rest (λ i. row_at s (from + size * i)) n

-- the same, none left out
abbrev pub rows_in : {A : Type 0} → ℕ → (List ℕ → ℕ → A) → List ℕ → ℕ → ℕ → List A
rows_in size row_at s from n = list_to (λ i. row_at s (from + size * i)) n

-- what the reading of n rows answers: the place after them, or that one of them is not there
abbrev pub RowsRead : {A : Type 0} → ℕ → (List ℕ → ℕ → A) → List ℕ → ℕ → ℕ → List A → Option ℕ → Type 0
RowsRead size row_at s from n rows answer =
    MatchOption answer (length s < from + size * n) (λ next. Got s from (size * n) (λ t place. rows_in size row_at t place n) rows next)
