-- Ask 8: "Old sheets with policy 3 are still read .., and the program answers them with `refused 15 at 0`": `withdrawn-line`.
-- Assumes nothing.
use Rattle.ground.proofs.Kit.{ℕ, List, [], ◌∷◌, ◌≡◌, refl, sym, ◌∙◌}
use Rattle.kinds.specs.declared.Sheet.{Sheet}
use Rattle.kinds.specs.declared.Refusal.TheVariants.{PolicyWithdrawn}
use Rattle.kinds.specs.Policy.{policy_number}
use Rattle.kinds.specs.Answer.{accepted, refused}
use Rattle.kinds.proofs.Chain.{comes-first}
use Rattle.plain_finder.specs.Asked.{asked}
use Rattle.plain_finder.proofs.Exactly.{asked-withdrawn}
use Rattle.sheet.specs.Reading.{read_sheet}
use Rattle.writer.specs.Encode.{encode}
use Rattle.numeral.specs.Decimal.{digits_in, decimal}
use Rattle.refusal_line.specs.Line.{refusal_line}
use Rattle.fill.specs.Results.{with_plan}
use Rattle.fill.specs.Fill.{planned_sheet, planned, filled}
use Rattle.fill.proofs.Readings.{planned-accepted, filled-refused}

-- every sheet that reads and has policy 3, a further choice that holds 3 too
module _ (s : List ℕ) (x : Sheet) (read : read_sheet s ≡ accepted x) (three : policy_number x.settings.policy ≡ 3) where
  -- the plain finder refuses it
  sheet-withdrawn : planned_sheet x ≡ refused [] PolicyWithdrawn
  unfolding planned_sheet
  sheet-withdrawn = sym (comes-first [] (asked x) (λ k. accepted (encode (with_plan x k))) 0 PolicyWithdrawn (asked-withdrawn x three))

  -- it is refused by 15, with no bytes of a sheet
  pub withdrawn-planned : planned s ≡ refused [] PolicyWithdrawn
  withdrawn-planned = planned-accepted s x read ∙ sheet-withdrawn

  -- the line is that of 15 at 0
  pub withdrawn-line : filled s ≡ refusal_line 15 0
  withdrawn-line = filled-refused s PolicyWithdrawn withdrawn-planned

-- and that line is `refused 15 at 0` and a newline
pub line-of-fifteen : refusal_line 15 0 ≡ 114 ∷ 101 ∷ 102 ∷ 117 ∷ 115 ∷ 101 ∷ 100 ∷ 32 ∷ 49 ∷ 53 ∷ 32 ∷ 97 ∷ 116 ∷ 32 ∷ 48 ∷ 10 ∷ []
unfolding refusal_line decimal digits_in
line-of-fifteen = refl
