-- Document 01, "The station sheet": the bytes of a sheet. "Sections in fixed order, each after its 2-byte count."
-- Assumes nothing.
use Rattle.std.specs.Prelude.{ℕ, List, ◌++◌}
use Rattle.kinds.specs.declared.Task.{Task}
use Rattle.kinds.specs.declared.Granted.{Granted}
use Rattle.kinds.specs.declared.Settings.{Settings}
use Rattle.kinds.specs.declared.Sheet.{Sheet}
use Rattle.kinds.specs.Task.{no_task}
use Rattle.kinds.specs.Settings.{numbers_of}
use Rattle.field.specs.Number.{bytes_of}
use Rattle.sheet.specs.Sections.{setting_size, end_place}
use Rattle.sheet.specs.Rows.{no_granted, task_bytes, granted_bytes, rows_bytes}

-- the bytes of each section's rows
abbrev pub tasks_bytes : List Task → ℕ → List ℕ
tasks_bytes rows n = rows_bytes task_bytes no_task rows n

abbrev pub results_bytes : List Granted → ℕ → List ℕ
results_bytes rows n = rows_bytes granted_bytes no_granted rows n

abbrev pub numbers_bytes : List ℕ → ℕ → List ℕ
numbers_bytes numbers n = rows_bytes (bytes_of setting_size) 0 numbers n

-- "settings (.. policy, m, 2 bytes each)"; Ask 2: the settings count is "written back as read", and the writer "leaves out numbers past it"
unfoldable pub settings_bytes : ℕ → Settings → List ℕ
settings_bytes count st = bytes_of 2 count ++ numbers_bytes (numbers_of st) count

unfoldable pub encode : Sheet → List ℕ
encode x =
    settings_bytes x.count x.settings
    ++ ((bytes_of 2 x.table.n ++ tasks_bytes x.table.rows x.table.n)
    ++ (bytes_of 2 x.results.n ++ results_bytes x.results.rows x.results.n))

-- how many bytes a sheet takes
abbrev pub length_of : Sheet → ℕ
length_of x = end_place x.count x.table.n x.results.n
