-- What comes of a reading: its refusal, or the filled sheet; and the line that the program writes for a refusal.
-- Assumes nothing.
use Rattle.ground.proofs.Kit.{ℕ, List, [], ◌≡◌, sym, ◌∙◌, ap, Ok, Err}
use Rattle.kinds.specs.declared.Sheet.{Sheet}
use Rattle.kinds.specs.declared.Refusal.{Refusal}
use Rattle.kinds.specs.Refusal.{number_of, place_of}
use Rattle.kinds.specs.Answer.{Handed, accepted, refused}
use Rattle.kinds.proofs.Chain.{comes-first, goes_on}
use Rattle.plain_finder.specs.Asked.{asked}
use Rattle.sheet.specs.declared.Reading.{Reading}
use Rattle.sheet.specs.Reading.{read_sheet, handed_reading}
use Rattle.sheet.proofs.Handed.{handed-as}
use Rattle.writer.specs.Encode.{encode}
use Rattle.refusal_line.specs.Line.{refusal_line, or_line}
use Rattle.refusal_line.proofs.Lines.{line_of}
use Rattle.fill.specs.Results.{with_plan}
use Rattle.fill.specs.Fill.{planned_sheet, planned, filled}
use Rattle.fill.proofs.Plans.{sheet-planned}

-- as the definitions say it
pub planned-refused : (s : List ℕ) (x : Sheet) (q : Refusal) → read_sheet s ≡ refused x q → planned s ≡ refused [] q
unfolding planned
planned-refused s x q e = sym (comes-first [] (read_sheet s) planned_sheet x q e)

pub planned-accepted : (s : List ℕ) (x : Sheet) → read_sheet s ≡ accepted x → planned s ≡ planned_sheet x
unfolding planned
planned-accepted s x e = sym (goes_on [] (read_sheet s) planned_sheet x e)

pub filled-refused : (s : List ℕ) (q : Refusal) → planned s ≡ refused [] q → filled s ≡ refusal_line (number_of q) (place_of q)
unfolding filled
filled-refused s q e = ap (λ (h : Handed (List ℕ)). or_line h (λ b. b)) e ∙ line_of [] q (λ b. b)

pub filled-unread : (s : List ℕ) (x : Sheet) (q : Refusal) → read_sheet s ≡ refused x q → filled s ≡ refusal_line (number_of q) (place_of q)
filled-unread s x q e = filled-refused s q (planned-refused s x q e)

pub filled-planned : (s : List ℕ) (x : Sheet) (k : ℕ) → read_sheet s ≡ accepted x → asked x ≡ accepted k → filled s ≡ encode (with_plan x k)
unfolding filled
filled-planned s x k read e = ap (λ (h : Handed (List ℕ)). or_line h (λ b. b)) (planned-accepted s x read ∙ sheet-planned x k e)

-- as the reader hands it back
module _ (s : List ℕ) (r : Reading) (read : handed_reading r ≡ read_sheet s) where
  pub reading-refused : (q : Refusal) → r.verdict ≡ Err q → planned s ≡ refused [] q
  reading-refused q v = planned-refused s r.sheet q (handed-as s r read (Err q) v)

  pub reading-accepted : r.verdict ≡ (Ok tt) → planned s ≡ planned_sheet r.sheet
  reading-accepted v = planned-accepted s r.sheet (handed-as s r read (Ok tt) v)
