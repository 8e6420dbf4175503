-- The bytes that the office's programs write.
-- Assumes nothing.
use Rattle.std.specs.Prelude.{ℕ, List, Option, Some, None, ltb, replicate}
use Rattle.ground.specs.Choice.{pick}
use Rattle.kinds.specs.declared.Refusal.{Refusal}
use Rattle.kinds.specs.declared.Refusal.TheVariants.{NoSuchPolicy, Misset}
use Rattle.kinds.specs.declared.Sheet.{Sheet}
use Rattle.kinds.specs.declared.Table.{Table}
use Rattle.kinds.specs.Limits.{most_tasks, fewest_settings, share_edition}
use Rattle.kinds.specs.Policy.{policy_of}
use Rattle.kinds.specs.Settings.{settings}
use Rattle.kinds.specs.Answer.{Handed, accepted, refused}
use Rattle.kinds.specs.Task.{table_of}
use Rattle.numeral.specs.Scan.{numeral_in}
use Rattle.sheet.specs.Rows.{no_granted}
use Rattle.sheet.specs.Reading.{read_sheet}
use Rattle.writer.specs.Encode.{encode}
use Rattle.office.specs.Text.{text_to, longest_text}
use Rattle.office.specs.Reading.{read_text, rows_of}
use Rattle.office.specs.Carrying.{import_handed, export_handed}
use Rattle.refusal_line.specs.Line.{or_line}

-- the greatest number that a field of 2 bytes holds
abbrev pub greatest_setting : ℕ
greatest_setting = 65535

-- a number that such a field holds
abbrev pub setting_by : Option (ℕ × ℕ) → Option ℕ
setting_by (Some (v, next)) = pick (ltb greatest_setting v) None (Some v)
setting_by None = None

unfoldable pub setting_of : List ℕ → Option ℕ
setting_of argument = setting_by (numeral_in argument)

-- the setting of an argument, or the refusal that says that there is none such
abbrev pub handed_setting : Refusal → Option ℕ → Handed ℕ
handed_setting refusal (Some v) = accepted v
handed_setting refusal None = refused 0 refusal

-- the unfilled sheet of a table: it has two settings, a swap costs nothing, a notch is one tick and shares are tested
abbrev pub sheet_with : ℕ → ℕ → Table → Sheet
sheet_with policy m table =
    record {
      count = fewest_settings;
      settings = settings (policy_of policy) m 0 1 share_edition;
      table = table;
      results = record { rows = replicate most_tasks no_granted; n = 0 };
    }

-- the sheet of a text
unfoldable pub entered_text : ℕ → ℕ → List ℕ → List ℕ
entered_text policy m text =
    or_line (import_handed text most_tasks) (λ n. encode (sheet_with policy m (table_of (rows_of (read_text text)))))

-- the arguments are judged first
unfoldable pub entered : List ℕ → List ℕ → List ℕ → List ℕ
entered policy processors text =
    or_line (handed_setting NoSuchPolicy (setting_of policy)) (λ p.
    or_line (handed_setting Misset (setting_of processors)) (λ m. entered_text p m text))

-- the text of a table, for which there is always room
unfoldable pub taken_table : Table → List ℕ
taken_table t = or_line (export_handed t.rows t.n longest_text) (λ n. text_to t.rows t.n)

-- the text of a sheet's table
unfoldable pub taken_out : List ℕ → List ℕ
taken_out bytes = or_line (read_sheet bytes) (λ x. taken_table x.table)
