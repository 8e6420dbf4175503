-- Bytes that read are written back the same, by the promises of the two calls that C makes; those that do not read are refused as the reader says.
-- Assumes nothing.
use Prim.Native.Nat.{ℕ}
use mathlib.Core.List.{List}
use mathlib.Core.Path.{◌≡◌, sym, ap, ◌∙◌}
use lib.Dec.{leb}
use lib.ListN.{length}
use borrow.Author.Tests.{ne_eqb}
use Rattle.kinds.specs.declared.Policy.{Policy}
use Rattle.kinds.specs.declared.Settings.{Settings}
use Rattle.kinds.specs.declared.Sheet.{Sheet}
use Rattle.kinds.specs.declared.Refusal.TheVariants.{OutputTooShort}
use Rattle.kinds.specs.Answer.{Handed, accepted, demanded, after}
use Rattle.kinds.specs.Policy.{meant}
use Rattle.kinds.specs.Settings.{settings}
use Rattle.kinds.proofs.Chain.{goes_on}
use Rattle.field.specs.Number.{Bytes}
use Rattle.sheet.specs.Reading.{read_sheet}
use Rattle.sheet.proofs.Numbered.{accepted-by-number}
use Rattle.writer.specs.Writing.{write_sheet, after_write}
use Rattle.writer.proofs.RoundTrip.{read-handed, read-after, read-canonical, same-canonical}
use Rattle.c_numbers.specs.declared.ToldCount.{ToldCount}
use Rattle.c_numbers.specs.Numbers.{ToldCounts}
use Rattle.c_sheets.specs.declared.StationSheet.{StationSheet}
use Rattle.c_sheets.specs.declared.ToldReading.{ToldReading}
use Rattle.c_sheets.specs.Sheets.{sheet_of, told_sheet, in_numbers, told_reading}
use Rattle.c_sheets.specs.Back.{back_handed, after_back}

-- a sheet whose policy is the one that is meant comes back from its numbers
sheet-back : (x : Sheet) → meant x.settings.policy ≡ x.settings.policy → sheet_of (told_sheet x) ≡ x
sheet-back x e =
    let st = x.settings in
    let under : Policy → Settings = λ p. settings p st.m st.swap st.notch st.edition in
    ap (λ (p : Policy). record { count = x.count; settings = under p; table = x.table; results = x.results }) e

module _ (s : List ℕ) (t : ToldReading) (told : told_reading t ≡ in_numbers (read_sheet s)) (old : List ℕ) where
  number_is : (read_sheet s).number ≡ t.number
  number_is = ap (λ (h : Handed StationSheet). h.number) (sym told)

  -- the bytes do not read
  pub unread-back : (t.number ≡ 0 → ⊥)
      → ToldCounts (back_handed s (length old)) (after_back s old) (record { number = t.number; place = t.place; count = 0 }) old
  unfolding back_handed after_back
  unread-back refused =
      let e = ne_eqb (read_sheet s).number 0 (λ z. refused (sym number_is ∙ z)) in
      record { answers = rw e (λ i. record { number = (told i).number; place = (told i).place; value = 0 }); leaves = rw (e, e) }

  -- the bytes read
  module _ (bytes : Bytes s) (reads : t.number ≡ 0) where
    read : read_sheet s ≡ accepted (read_sheet s).value
    read = accepted-by-number s (number_is ∙ reads)

    sheet-is : sheet_of t.sheet ≡ (read_sheet s).value
    sheet-is =
        let x = (read_sheet s).value in
        ap (λ (h : Handed StationSheet). sheet_of h.value) told ∙ sheet-back x (same-canonical x (read-canonical s x read)).policy-meant

    handed-is : (room : ℕ) → write_sheet (read_sheet s).value room ≡ back_handed s room
    unfolding back_handed
    handed-is room =
        read-handed s bytes (read_sheet s).value read room
        ∙ goes_on 0 (read_sheet s) (λ x. demanded 0 (leb (length s) room) (OutputTooShort (length s)) (accepted (length s))) (read_sheet s).value read

    pub written_back : (r : ToldCount) (new : List ℕ)
        → ToldCounts (write_sheet (sheet_of t.sheet) (length old)) (after_write (sheet_of t.sheet) old) r new
        → ToldCounts (back_handed s (length old)) (after_back s old) r new
    unfolding after_back
    written_back r new p =
        let x = (read_sheet s).value in
        record {
          answers = p.answers ∙ (ap (λ (y : Sheet). write_sheet y (length old)) sheet-is ∙ handed-is (length old));
          leaves =
              p.leaves
              ∙ (ap (λ (y : Sheet). after_write y old) sheet-is
              ∙ (read-after s bytes x read old ∙ ap (λ (h : Handed ℕ). after h s (length s) old) (handed-is (length old))));
        }
