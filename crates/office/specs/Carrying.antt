-- What an import and an export hand back, and the lent output after each.
-- Assumes nothing.
use Rattle.std.specs.Prelude.{ℕ, List, [], ◌≡◌, Ok, Err, ltb, length}
use Rattle.kinds.specs.declared.Task.{Task}
use Rattle.kinds.specs.declared.Refusal.TheVariants.{TooManyTasks, OutputTooShort}
use Rattle.kinds.specs.Limits.{most_tasks}
use Rattle.kinds.specs.Task.{table_of}
use Rattle.kinds.specs.Answer.{Handed, accepted, refused, check, handed_count, after, Counted}
use Rattle.office.specs.declared.Imported.{Imported}
use Rattle.office.specs.Text.{text_to}
use Rattle.office.specs.Reading.{Reading, read_text, rows_of}

-- "Short outputs are refused by 5, last."
abbrev pub carry : ℕ → ℕ → Handed ℕ
carry needed room = check (ltb room needed) (refused 0 (OutputTooShort needed)) (accepted needed)

abbrev pub carry_rows : Reading → ℕ → Handed ℕ
carry_rows (Ok rows) room = carry (length rows) room
carry_rows (Err refusal) room = refused 0 refusal

-- an import into an output with room for so many rows
unfoldable pub import_handed : List ℕ → ℕ → Handed ℕ
import_handed text room = carry_rows (read_text text) room

-- an export of the first n rows into an output with room for so many bytes: "Export refuses more than 32 tasks by 3."
unfoldable pub export_handed : List Task → ℕ → ℕ → Handed ℕ
export_handed rows n room =
    check (ltb most_tasks n) (refused 0 (TooManyTasks n)) (carry (length (text_to rows n)) room)

-- the output after a call: what was carried over and then what stood there
abbrev pub after_carry : {A : Type 0} → Handed ℕ → List A → List A → List A
after_carry h new old = after h new h.value old

pub record Imports (text : List ℕ) (old : List Task) (r : Counted) (new : List Task) : Type 0 where
  pub answer : handed_count r ≡ import_handed text (length old)
  pub output : new ≡ after_carry (import_handed text (length old)) (rows_of (read_text text)) old

pub record Exports (rows : List Task) (n : ℕ) (old : List ℕ) (r : Counted) (new : List ℕ) : Type 0 where
  pub answer : handed_count r ≡ export_handed rows n (length old)
  pub output : new ≡ after_carry (export_handed rows n (length old)) (text_to rows n) old

-- an import by value: the table of the rows, or of none where it is refused
pub record Reads (text : List ℕ) (room : ℕ) (r : Imported) : Type 0 where
  pub answer : handed_count r.answer ≡ import_handed text room
  pub table : r.table ≡ table_of (after_carry (import_handed text room) (rows_of (read_text text)) [])
