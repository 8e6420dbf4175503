-- The canonical form of a sheet: what comes back when it is written and read.
-- Assumes nothing.
use Rattle.std.specs.Prelude.{ℕ, ◌<◌, ◌≡◌, length, get_or}
use Rattle.ground.specs.Laid.{over, padded_to}
use Rattle.kinds.specs.declared.Task.{Task}
use Rattle.kinds.specs.declared.Granted.{Granted}
use Rattle.kinds.specs.declared.Sheet.{Sheet}
use Rattle.kinds.specs.Limits.{most_tasks}
use Rattle.kinds.specs.Task.{no_task, at}
use Rattle.kinds.specs.Settings.{fill_ins, setting, settings_of, numbers_of}
use Rattle.field.specs.Number.{limit}
use Rattle.sheet.specs.Sections.{setting_size}
use Rattle.sheet.specs.Rows.{no_granted}

abbrev pub setting_in : Sheet → ℕ → ℕ
setting_in x i = setting (numbers_of x.settings) i

abbrev pub granted_in : Sheet → ℕ → Granted
granted_in x i = get_or x.results.rows i no_granted

-- a further choice that holds 1 to 5 is that policy, numbers past the settings count are filled in, and the unused places are zeros
unfoldable pub canonical : Sheet → Sheet
canonical x =
    record {
      count = x.count;
      settings = settings_of (over fill_ins (setting_in x) x.count);
      table = record { rows = padded_to no_task most_tasks (at x.table.rows) x.table.n; n = x.table.n };
      results = record { rows = padded_to no_granted most_tasks (granted_in x) x.results.n; n = x.results.n };
    }

-- what every value of the kind has: its numbers fit their fields
pub record TaskStorable (t : Task) : Type 0 where
  pub c : t.c < limit 4
  pub tmin : t.tmin < limit 4
  pub tmax : t.tmax < limit 4
  pub e : t.e < limit 4

pub record GrantedStorable (g : Granted) : Type 0 where
  pub period : g.period < limit 4
  pub processor : g.processor < limit 2

-- and its tables have room for the most tasks
pub record SheetStorable (x : Sheet) : Type 0 where
  pub settings : (i : ℕ) → setting_in x i < limit setting_size
  pub tasks : (i : ℕ) → TaskStorable (at x.table.rows i)
  pub tasks-room : length x.table.rows ≡ most_tasks
  pub results : (i : ℕ) → GrantedStorable (granted_in x i)
  pub results-room : length x.results.rows ≡ most_tasks
