-- No second answer meets what a reading promises: what is told, read as a call's own numbers, settles every field.
-- Assumes nothing.
use mathlib.Core.Path.{◌≡◌, sym, ◌∙◌}
use Rattle.kinds.specs.Answer.{Handed}
use Rattle.c_sheets.specs.declared.StationSheet.{StationSheet}
use Rattle.c_sheets.specs.declared.ToldReading.{ToldReading}
use Rattle.c_sheets.specs.Sheets.{told_reading}

pub told-reading-one : (h : Handed StationSheet) (r q : ToldReading) → told_reading r ≡ h → told_reading q ≡ h → r ≡ q
told-reading-one h r q a b = let e = a ∙ sym b in λ i. record { number = (e i).number; place = (e i).place; sheet = (e i).value }
