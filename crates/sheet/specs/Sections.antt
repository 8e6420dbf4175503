-- Document 01, "The station sheet": where each section stands. "Sections in fixed order, each after its 2-byte count."
-- Assumes nothing.
use Rattle.std.specs.Prelude.{ℕ, ◌+◌, ◌*◌, Bool, leb, eqb}
use Rattle.ground.specs.Choice.{both, either}
use Rattle.kinds.specs.Limits.{fewest_settings, most_settings, most_tasks}

-- the bytes of a count
abbrev pub count_size : ℕ
count_size = 2

-- "settings (.. policy, m, 2 bytes each)"
abbrev pub setting_size : ℕ
setting_size = 2

-- "tasks (C, Tmin, Tmax, E, 4 bytes each)"
abbrev pub task_size : ℕ
task_size = 16

-- "results (..; period 4 bytes, processor 2)"
abbrev pub granted_size : ℕ
granted_size = 6

-- where the settings count stands, and where the settings start
abbrev pub settings_place : ℕ
settings_place = 0

abbrev pub numbers_place : ℕ
numbers_place = settings_place + count_size

-- where the task count of a sheet with c settings stands, and where its records start
abbrev pub tasks_place : ℕ → ℕ
tasks_place c = numbers_place + setting_size * c

abbrev pub records_place : ℕ → ℕ
records_place c = tasks_place c + count_size

-- where the result count of a sheet with c settings and n tasks stands, and where its results start
abbrev pub results_place : ℕ → ℕ → ℕ
results_place c n = records_place c + task_size * n

abbrev pub granted_place : ℕ → ℕ → ℕ
granted_place c n = results_place c n + count_size

-- where a sheet with c settings, n tasks and r results ends
abbrev pub end_place : ℕ → ℕ → ℕ → ℕ
end_place c n r = granted_place c n + granted_size * r

-- Ask 2: "the greatest length follows": the most settings and tasks, and a result for each; `sheet::limits` shows that the code has the same
abbrev pub longest_sheet : ℕ
longest_sheet = end_place most_settings most_tasks most_tasks

-- Ask 10: "Refusal 9 allows counts 2 to 5."
unfoldable pub settings_fit : ℕ → Bool
settings_fit c = both (leb fewest_settings c) (leb c most_settings)

-- "results (count 0 or the task count ..)"
unfoldable pub results_fit : ℕ → ℕ → Bool
results_fit r n = either (eqb r 0) (eqb r n)
