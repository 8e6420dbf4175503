-- Document 01, "Program": the bytes that the program writes for the bytes that it reads.
-- Assumes nothing.
use Rattle.std.specs.Prelude.{ℕ, ◌≤◌, List, [], ◌≡◌, length}
use Rattle.kinds.specs.declared.Sheet.{Sheet}
use Rattle.kinds.specs.Answer.{Handed, accepted, unrefused, handed_count, after, Counted}
use Rattle.plain_finder.specs.Asked.{asked}
use Rattle.sheet.specs.Reading.{read_sheet}
use Rattle.writer.specs.Encode.{encode}
use Rattle.refusal_line.specs.Line.{or_line}
use Rattle.fill.specs.Results.{with_plan}

-- "writes the sheet with results filled in from the plain finder, replacing older ones": its bytes, none where it is refused
unfoldable pub planned_sheet : Sheet → Handed (List ℕ)
planned_sheet x = unrefused [] (asked x) (λ k. accepted (encode (with_plan x k)))

unfoldable pub planned : List ℕ → Handed (List ℕ)
planned input = unrefused [] (read_sheet input) planned_sheet

-- what the program writes: those bytes, or the line
unfoldable pub filled : List ℕ → List ℕ
filled input = or_line (planned input) (λ bytes. bytes)

-- what a call that writes such bytes hands back: number, place and written length
abbrev pub counted : Handed (List ℕ) → Handed ℕ
counted h = record { number = h.number; place = h.place; value = length h.value }

-- and its output: the bytes, and then what stood there; where it is refused, as it was
abbrev pub after_fill : Handed (List ℕ) → List ℕ → List ℕ
after_fill h old = after h h.value (length h.value) old

pub record Fills (h : Handed (List ℕ)) (old : List ℕ) (r : Counted) (new : List ℕ) : Type 0 where
  pub answer : handed_count r ≡ counted h
  pub output : new ≡ after_fill h old
  pub fits : length h.value ≤ length old
