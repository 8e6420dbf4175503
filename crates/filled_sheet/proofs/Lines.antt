-- The program's line for each verdict, and that the longest sheet's bytes and one more tell all.
-- Assumes nothing.
use Rattle.ground.proofs.Kit.{ℕ, ◌+◌, List, ◌≡◌, sym, ◌∙◌, ap, take, Ok, Err}
use Rattle.kinds.specs.declared.Sheet.{Sheet}
use Rattle.kinds.specs.declared.Refusal.{Refusal}
use Rattle.kinds.specs.Refusal.{number_of, place_of}
use Rattle.kinds.specs.Answer.{Handed, unrefused, handed_verdict, NumberAndPlace, Verdict}
use Rattle.sheet.specs.Sections.{longest_sheet}
use Rattle.sheet.proofs.Beyond.{front_reads}
use Rattle.refusal_line.specs.Line.{refusal_line, or_line}
use Rattle.refusal_line.proofs.Lines.{line_of}
use Rattle.filled_sheet.specs.Checked.{checked_sheet, checked}
use Rattle.filled_sheet.specs.Told.{accepted_line, told}

module _ (s : List ℕ) (v : Verdict) (is : handed_verdict v ≡ checked s) where
  line-is : (w : Verdict) → v ≡ w → told s ≡ or_line (handed_verdict w) (λ u. accepted_line)
  unfolding told
  line-is w e = ap (λ (h : NumberAndPlace). or_line h (λ u. accepted_line)) (sym is ∙ ap handed_verdict e)

  pub accepted-line : v ≡ (Ok tt) → told s ≡ accepted_line
  accepted-line e = line-is (Ok tt) e

  pub refused-line : (q : Refusal) → v ≡ Err q → told s ≡ refusal_line (number_of q) (place_of q)
  refused-line q e = line-is (Err q) e ∙ line_of (tt {0}) q (λ u. accepted_line)

-- what is said of any input is said of the longest sheet's bytes and one more of it
pub front-checks : (s : List ℕ) → checked (take (longest_sheet + 1) s) ≡ checked s
unfolding checked
front-checks s = ap (λ (r : Handed Sheet). unrefused tt r checked_sheet) (front_reads s)

pub front-tells : (s : List ℕ) → told (take (longest_sheet + 1) s) ≡ told s
unfolding told
front-tells s = ap (λ (h : NumberAndPlace). or_line h (λ u. accepted_line)) (front-checks s)
