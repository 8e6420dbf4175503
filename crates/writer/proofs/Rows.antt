-- How long the bytes of a row, of rows and of a sheet are, and the first rows of a list.
-- Assumes nothing.
use Rattle.ground.proofs.Kit.{ℕ, ◌*◌, ◌≤◌, List, ◌≡◌, ap, arith, length, get_or, take, length-append, length-take-le}
use Rattle.std.proofs.lemmas.List.{get_or-take}
use Rattle.ground.proofs.Joins.{join-sized, join-cong}
use Rattle.kinds.specs.declared.Task.{Task}
use Rattle.kinds.specs.declared.Granted.{Granted}
use Rattle.kinds.specs.declared.Settings.{Settings}
use Rattle.kinds.specs.declared.Sheet.{Sheet}
use Rattle.kinds.specs.Task.{no_task}
use Rattle.field.specs.Number.{bytes_of}
use Rattle.field.specs.Handover.{Put}
use Rattle.field.proofs.Numbers.{bytes-long}
use Rattle.sheet.specs.Sections.{setting_size, task_size, granted_size, tasks_place}
use Rattle.sheet.specs.Rows.{no_granted, task_bytes, granted_bytes, rows_bytes}
use Rattle.writer.specs.Encode.{numbers_bytes, tasks_bytes, results_bytes, settings_bytes, encode, length_of}

pub task-long : (t : Task) → length (task_bytes t) ≡ task_size
unfolding task_bytes
task-long t = simp (length-append, bytes-long)

pub granted-long : (g : Granted) → length (granted_bytes g) ≡ granted_size
unfolding granted_bytes
granted-long g = simp (length-append, bytes-long)

module _ {A : Type 0} (bytes : A → List ℕ) (none : A) (size : ℕ) (rows : List A) where
  pub rows_long : ((a : A) → length (bytes a) ≡ size) → (n : ℕ) → length (rows_bytes bytes none rows n) ≡ size * n
  unfolding rows_bytes
  rows_long long n = join-sized (λ i. bytes (get_or rows i none)) size (λ i. long (get_or rows i none)) n

  -- rows that a slice takes from the front are the first ones
  pub put_front : (n : ℕ) {out new : List ℕ} {from next : ℕ} → n ≤ length rows
      → Put out from (size * length (take n rows)) (rows_bytes bytes none (take n rows) (length (take n rows))) next new
      → Put out from (size * n) (rows_bytes bytes none rows n) next new
  unfolding rows_bytes
  put_front n few p =
      let same = join-cong (λ i. bytes (get_or (take n rows) i none)) (λ i. bytes (get_or rows i none)) n (λ i h. ap bytes (get_or-take n rows i none h)) in
      rw (length-take-le n rows few, same) at p

pub numbers-long : (numbers : List ℕ) (n : ℕ) → length (numbers_bytes numbers n) ≡ setting_size * n
numbers-long numbers n = rows_long (bytes_of setting_size) 0 setting_size numbers (bytes-long setting_size) n

pub settings-long : (count : ℕ) (st : Settings) → length (settings_bytes count st) ≡ tasks_place count
unfolding settings_bytes
settings-long count st = simp (length-append, bytes-long, numbers-long)

pub tasks-long : (rows : List Task) (n : ℕ) → length (tasks_bytes rows n) ≡ task_size * n
tasks-long rows n = rows_long task_bytes no_task task_size rows task-long n

pub results-long : (rows : List Granted) (n : ℕ) → length (results_bytes rows n) ≡ granted_size * n
results-long rows n = rows_long granted_bytes no_granted granted_size rows granted-long n

pub encode-long : (x : Sheet) → length (encode x) ≡ length_of x
unfolding encode
encode-long x = simp (length-append, bytes-long, settings-long, tasks-long, results-long) (omega arith)
