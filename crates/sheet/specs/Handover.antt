-- What functions hand each other: the front of a sheet that was read.
-- Assumes nothing.
use Rattle.std.specs.Prelude.{ℕ, ◌≤◌, List, ◌≡◌, length, Result, Ok, Err}
use Rattle.kinds.specs.declared.Refusal.{Refusal}
use Rattle.kinds.specs.Limits.{most_settings, most_tasks}
use Rattle.kinds.specs.Settings.{settings_of}
use Rattle.kinds.specs.Answer.{refused}
use Rattle.sheet.specs.declared.Head.{Head}
use Rattle.sheet.specs.Sections.{records_place}
use Rattle.sheet.specs.Reading.{no_sheet, settings_count, numbers_in, task_count, read_rows, read_sheet}

-- the front of a sheet was read: its settings count, its settings, its task count, and where its records start
pub record Begins (s : List ℕ) (head : Head) (from : ℕ) : Type 0 where
  pub count-is : head.count ≡ settings_count s
  pub settings-few : head.count ≤ most_settings
  pub settings-is : head.settings ≡ settings_of (numbers_in s)
  pub n-is : head.n ≡ task_count s
  pub few : head.n ≤ most_tasks
  pub from_is : from ≡ records_place (settings_count s)
  pub within : records_place (settings_count s) ≤ length s
  pub on : read_sheet s ≡ read_rows s

-- what the head says of the whole reading
abbrev pub HeadTells : List ℕ → Result Head Refusal → Type 0
HeadTells s (Ok head) = Begins s head (records_place head.count)
HeadTells s (Err refusal) = refused no_sheet refusal ≡ read_sheet s
