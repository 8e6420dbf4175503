-- The office's texts in numbers that cross to C.
-- Assumes nothing.
use Rattle.std.specs.Prelude.{ℕ, List, [], ◌≡◌, length}
use Rattle.kinds.specs.declared.Task.{Task}
use Rattle.kinds.specs.Task.{table_of}
use Rattle.office.specs.Text.{text_to}
use Rattle.office.specs.Reading.{read_text, rows_of}
use Rattle.office.specs.Carrying.{import_handed, export_handed, after_carry}
use Rattle.c_numbers.specs.declared.ToldCount.{ToldCount}
use Rattle.c_numbers.specs.Numbers.{told_count, ToldCounts}
use Rattle.c_texts.specs.declared.ToldImport.{ToldImport}

abbrev pub ToldImports : List ℕ → List Task → ToldCount → List Task → Type 0
ToldImports text old = ToldCounts (import_handed text (length old)) (after_carry (import_handed text (length old)) (rows_of (read_text text)) old)

abbrev pub ToldExports : List Task → ℕ → List ℕ → ToldCount → List ℕ → Type 0
ToldExports rows n old = ToldCounts (export_handed rows n (length old)) (after_carry (export_handed rows n (length old)) (text_to rows n) old)

-- an import by value: the table of the rows, or of none where it is refused
pub record ToldReads (text : List ℕ) (room : ℕ) (r : ToldImport) : Type 0 where
  pub answers : told_count r.told ≡ import_handed text room
  pub table : r.table ≡ table_of (after_carry (import_handed text room) (rows_of (read_text text)) [])
