-- A reading as the reader hands it back: by its verdict, with a settings count that is taken and no more tasks than there may be.
-- Assumes nothing.
use Rattle.ground.proofs.Kit.{ℕ, ◌≤◌, true, List, ◌≡◌, sym, ◌∙◌, ap, arith, Ok}
use Rattle.kinds.specs.declared.Sheet.{Sheet}
use Rattle.kinds.specs.Limits.{most_tasks}
use Rattle.kinds.specs.Answer.{accepted, handed_with, Verdict}
use Rattle.sheet.specs.declared.Reading.{Reading}
use Rattle.sheet.specs.Sections.{settings_fit}
use Rattle.sheet.specs.Reading.{sheet_in, read_sheet, handed_reading}
use Rattle.sheet.proofs.Whole.{accepted-whole}

module _ (s : List ℕ) (r : Reading) (read : handed_reading r ≡ read_sheet s) where
  pub handed-as : (v : Verdict) → r.verdict ≡ v → read_sheet s ≡ handed_with v r.sheet
  handed-as v e = sym read ∙ ap (λ (w : Verdict). handed_with w r.sheet) e

  -- by what `Reading::accepted` says of a sheet
  pub accepted-as : (x : Sheet) → (r.verdict ≡ (Ok tt)) × (x ≡ r.sheet) → read_sheet s ≡ accepted x
  accepted-as x h = handed-as (Ok tt) h.0 ∙ ap accepted (sym h.1)

  pub reading-few : r.verdict ≡ (Ok tt) → r.sheet.table.n ≤ most_tasks
  unfolding sheet_in
  reading-few v = let w = accepted-whole s r read v in omega (arith, ap (λ (x : Sheet). x.table.n) w.1, w.0.few)

  pub reading-taken : r.verdict ≡ (Ok tt) → settings_fit r.sheet.count ≡ true
  unfolding sheet_in
  reading-taken v = let w = accepted-whole s r read v in ap (λ (x : Sheet). settings_fit x.count) w.1 ∙ w.0.settings
