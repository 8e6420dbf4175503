-- A reading in numbers: its verdict's, and the sheet's.
-- Assumes nothing.
use Rattle.std.specs.Prelude.{Ok, Err}
use Prim.Native.Nat.{ℕ}
use mathlib.Core.List.{List}
use mathlib.Core.Path.{◌≡◌, refl, ap, ◌∙◌}
use Rattle.kinds.specs.declared.Sheet.{Sheet}
use Rattle.kinds.specs.Answer.{handed_verdict, handed_with, Verdict}
use Rattle.sheet.specs.declared.Reading.{Reading}
use Rattle.sheet.specs.Reading.{read_sheet, handed_reading}
use Rattle.c_numbers.specs.declared.ToldVerdict.{ToldVerdict}
use Rattle.c_numbers.specs.Numbers.{told_verdict, beside}
use Rattle.c_numbers.proofs.Beside.{told-beside}
use Rattle.c_sheets.specs.Sheets.{told_sheet, in_numbers}

-- a sheet beside its verdict
numbers-with : (v : Verdict) (x : Sheet) → handed_with v (told_sheet x) ≡ in_numbers (handed_with v x)
numbers-with (Ok _) x = refl
numbers-with (Err q) x = refl

pub reading-told : (s : List ℕ) (r : Reading) (t : ToldVerdict) → handed_reading r ≡ read_sheet s → told_verdict t ≡ handed_verdict r.verdict
    → beside (told_verdict t) (told_sheet r.sheet) ≡ in_numbers (read_sheet s)
reading-told s r t read told =
    told-beside r.verdict (told_sheet r.sheet) t told ∙ (numbers-with r.verdict r.sheet ∙ ap in_numbers read)
