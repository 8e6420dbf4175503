-- Document 01, "Program", on inputs that are longer than the longest sheet: "refused as 11 at" its length "if the first" so many bytes "read
-- as a sheet of that length, else as the reader says of the whole"; Ask 2: "the program's 714 moves with it". One byte more tells all.
-- Assumes nothing.
use Rattle.ground.proofs.Kit.{ℕ, ◌+◌, ◌<◌, List, [], ◌≡◌, ap, arith, length, take, ne_eqb}
use Rattle.kinds.specs.declared.Sheet.{Sheet}
use Rattle.kinds.specs.declared.Refusal.TheVariants.{BytesAfterLast}
use Rattle.kinds.specs.Answer.{Handed, accepted, unrefused}
use Rattle.sheet.specs.Sections.{longest_sheet}
use Rattle.sheet.specs.Reading.{no_sheet, read_sheet}
use Rattle.sheet.proofs.Lengths.{end-most}
use Rattle.sheet.proofs.Whole.{whole, few-settings, few-results}
use Rattle.sheet.proofs.Numbered.{accepted-by-number}
use Rattle.sheet.proofs.Beyond.{front_reads}
use Rattle.sheet.proofs.After.{front-refused}
use Rattle.refusal_line.specs.Line.{refusal_line, or_line}
use Rattle.fill.specs.Fill.{planned_sheet, planned, filled}
use Rattle.fill.proofs.Readings.{filled-unread}

front-planned : (s : List ℕ) → planned (take (longest_sheet + 1) s) ≡ planned s
unfolding planned
front-planned s = ap (λ (r : Handed Sheet). unrefused [] r planned_sheet) (front_reads s)

pub front-fills : (s : List ℕ) → filled (take (longest_sheet + 1) s) ≡ filled s
unfolding filled
front-fills s = ap (λ (h : Handed (List ℕ)). or_line h (λ b. b)) (front-planned s)

module _ (s : List ℕ) (long : longest_sheet < length s) where
  -- "if the first .. read as a sheet of that length"
  pub longest-then-more : (x : Sheet) → read_sheet (take longest_sheet s) ≡ accepted x → filled s ≡ refusal_line 11 longest_sheet
  longest-then-more x e = filled-unread s no_sheet (BytesAfterLast longest_sheet) (front-refused s longest_sheet x long e)

  -- "else as the reader says of the whole": it always refuses
  refused-number : (read_sheet s).number ≡ 0 → ⊥
  refused-number e =
      let w = (whole s (read_sheet s).value (accepted-by-number s e)).0 in
      omega (arith, w.end, end-most _ _ _ (few-settings w) w.few (few-results w))

  not-planned : planned s ≡ record { number = (read_sheet s).number; place = (read_sheet s).place; value = [] }
  unfolding planned
  not-planned = rw (ne_eqb (read_sheet s).number 0 refused-number)

  pub too_long : filled s ≡ refusal_line (read_sheet s).number (read_sheet s).place
  unfolding filled
  too_long = rw (not-planned, ne_eqb (read_sheet s).number 0 refused-number)
