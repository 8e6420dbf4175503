-- What the checker says of a reading: its refusal, or what it says of the sheet.
-- Assumes nothing.
use Rattle.ground.proofs.Kit.{ℕ, List, ◌≡◌, Ok, Err}
use Rattle.kinds.specs.declared.Refusal.{Refusal}
use Rattle.kinds.specs.Answer.{refused}
use Rattle.kinds.proofs.Chain.{comes-first, goes_on}
use Rattle.sheet.specs.declared.Reading.{Reading}
use Rattle.sheet.specs.Reading.{read_sheet, handed_reading}
use Rattle.sheet.proofs.Handed.{handed-as}
use Rattle.filled_sheet.specs.Checked.{checked_sheet, checked}

module _ (s : List ℕ) (r : Reading) (reads : handed_reading r ≡ read_sheet s) where
  pub unread : (q : Refusal) → r.verdict ≡ Err q → refused tt q ≡ checked s
  unfolding checked
  unread q v = comes-first tt (read_sheet s) checked_sheet r.sheet q (handed-as s r reads (Err q) v)

  pub read : r.verdict ≡ (Ok tt) → checked_sheet r.sheet ≡ checked s
  unfolding checked
  read v = goes_on tt (read_sheet s) checked_sheet r.sheet (handed-as s r reads (Ok tt) v)
