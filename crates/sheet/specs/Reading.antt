-- What a reading of a list of bytes is: the sheet, or the first refusal from the left.
-- Assumes nothing.
use Rattle.std.specs.Prelude.{ℕ, Bool, List, leb, length, replicate, Result, Ok, Err}
use Rattle.kinds.specs.declared.Task.{Task}
use Rattle.kinds.specs.declared.Granted.{Granted}
use Rattle.kinds.specs.declared.Sheet.{Sheet}
use Rattle.kinds.specs.declared.Refusal.{Refusal}
use Rattle.kinds.specs.declared.Refusal.TheVariants.{TooManyTasks, SheetEnds, WrongSettingsCount, WrongResultCount, BytesAfterLast}
use Rattle.kinds.specs.Limits.{most_settings, most_tasks}
use Rattle.kinds.specs.Settings.{fill_ins, settings_of}
use Rattle.kinds.specs.Task.{no_tasks}
use Rattle.kinds.specs.Answer.{Handed, accepted, refused, demanded, handed_with}
use Rattle.field.specs.Number.{u16_at}
use Rattle.sheet.specs.declared.Reading.{Reading}
use Rattle.sheet.specs.Sections.{setting_size, task_size, granted_size, settings_place, numbers_place, tasks_place, records_place, results_place, granted_place, end_place, settings_fit, results_fit}
use Rattle.sheet.specs.Rows.{task_at, granted_at, no_results, rows_at}

-- document 01: "A refused reading hands back a sheet of zeros (policy: the further choice 0)"; nothing is filled in there
unfoldable pub no_sheet : Sheet
no_sheet =
    record {
      count = 0;
      settings = settings_of (replicate most_settings 0);
      table = record { rows = no_tasks; n = 0 };
      results = record { rows = no_results; n = 0 };
    }

-- the counts that stand in a sheet, and where it ends by them
unfoldable pub settings_count : List ℕ → ℕ
settings_count s = u16_at s settings_place

unfoldable pub task_count : List ℕ → ℕ
task_count s = u16_at s (tasks_place (settings_count s))

unfoldable pub result_count : List ℕ → ℕ
result_count s = u16_at s (results_place (settings_count s) (task_count s))

abbrev pub end_of : List ℕ → ℕ
end_of s = end_place (settings_count s) (task_count s) (result_count s)

-- the rows of each section that stands in a sheet; numbers past the settings count are filled in, "the unused places are zeros"
abbrev pub numbers_in : List ℕ → List ℕ
numbers_in s = rows_at fill_ins setting_size u16_at s numbers_place (settings_count s)

abbrev pub tasks_in : List ℕ → List Task
tasks_in s = rows_at no_tasks task_size task_at s (records_place (settings_count s)) (task_count s)

abbrev pub results_in : List ℕ → List Granted
results_in s = rows_at no_results granted_size granted_at s (granted_place (settings_count s) (task_count s)) (result_count s)

-- the sheet that stands in bytes; neither policy nor processors nor records are judged
unfoldable pub sheet_in : List ℕ → Sheet
sheet_in s =
    record {
      count = settings_count s;
      settings = settings_of (numbers_in s);
      table = record { rows = tasks_in s; n = task_count s };
      results = record { rows = results_in s; n = result_count s };
    }

-- something is judged: the rest where the test holds, else the refusal, with a sheet of zeros
abbrev pub judge : Bool → Refusal → Handed Sheet → Handed Sheet
judge = demanded no_sheet

-- 8: a field is due that ends at a place
abbrev pub due : List ℕ → ℕ → Handed Sheet → Handed Sheet
due s place = judge (leb place (length s)) (SheetEnds (length s))

-- from the task records on
unfoldable pub read_rows : List ℕ → Handed Sheet
read_rows s =
    due s (granted_place (settings_count s) (task_count s))
    (judge (results_fit (result_count s) (task_count s)) (WrongResultCount (results_place (settings_count s) (task_count s)))
    (due s (end_of s) (judge (leb (length s) (end_of s)) (BytesAfterLast (end_of s)) (accepted (sheet_in s)))))

-- document 01: "8, 9, 3, 10, 11, whichever it meets first from the left"
unfoldable pub read_sheet : List ℕ → Handed Sheet
read_sheet s =
    due s numbers_place
    (judge (settings_fit (settings_count s)) WrongSettingsCount
    (due s (records_place (settings_count s))
    (judge (leb (task_count s) most_tasks) (TooManyTasks (tasks_place (settings_count s))) (read_rows s))))

-- a sheet that was read, or the refusal with a sheet of zeros, in document 01's numbers
abbrev pub handed_sheet : Result Sheet Refusal → Handed Sheet
handed_sheet (Ok sheet) = accepted sheet
handed_sheet (Err refusal) = refused no_sheet refusal

-- and as the reader hands it back
abbrev pub handed_reading : Reading → Handed Sheet
handed_reading r = handed_with r.verdict r.sheet
