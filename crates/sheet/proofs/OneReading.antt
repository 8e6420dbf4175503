-- No second answer meets the promise of `read`.
-- Assumes nothing.
use Rattle.ground.proofs.Kit.{ℕ, List, ◌≡◌, sym, ◌∙◌}
use Rattle.kinds.proofs.Answers.{with-one}
use Rattle.sheet.specs.declared.Reading.{Reading}
use Rattle.sheet.specs.Reading.{read_sheet, handed_reading}

-- what is handed back tells the verdict and the sheet
pub reading-one : (r q : Reading) → handed_reading r ≡ handed_reading q → r ≡ q
reading-one r q e =
    let same = with-one r.verdict q.verdict r.sheet q.sheet e in
    λ i. record { verdict = same.0 i; sheet = same.1 i }

pub read_one : (s : List ℕ) (r q : Reading) → handed_reading r ≡ read_sheet s → handed_reading q ≡ read_sheet s → r ≡ q
read_one s r q e f = reading-one r q (e ∙ sym f)
