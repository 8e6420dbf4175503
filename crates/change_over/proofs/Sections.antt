-- What the reader and the plain finder say of a sheet together, and that the task section of one that both accept stands in it: `section-fits`.
-- Assumes nothing.
use Rattle.ground.proofs.Kit.{ℕ, ◌≤◌, Bool, true, false, List, ◌≡◌, refl, sym, ◌∙◌, ap, arith, length, ne_eqb, eqb-true, Option, Some, None, Result, Ok, Err}
use Rattle.std.specs.Result.{IfOk, IfErr, result_ok}
use Rattle.std.proofs.lemmas.Option.{same_Some, none-some}
use Rattle.ground.specs.Choice.{pick}
use Rattle.ground.proofs.Cases.{both_true}
use Rattle.kinds.specs.declared.Refusal.{Refusal}
use Rattle.kinds.specs.declared.Sheet.{Sheet}
use Rattle.kinds.specs.Limits.{most_settings, most_tasks}
use Rattle.kinds.specs.Refusal.{number_of}
use Rattle.kinds.specs.Answer.{accepted, handed, Answer}
use Rattle.kinds.proofs.Refusals.{refusal-numbered}
use Rattle.plain_finder.specs.Asked.{asked}
use Rattle.sheet.specs.declared.Reading.{Reading}
use Rattle.sheet.specs.Sections.{results_place}
use Rattle.sheet.specs.Reading.{sheet_in, read_sheet, handed_reading}
use Rattle.sheet.proofs.Handed.{handed-as, accepted-as}
use Rattle.sheet.proofs.Whole.{whole, few-settings}
use Rattle.sheet.proofs.Numbered.{accepted-by-number}
use Rattle.change_over.specs.ChangeOver.{acceptable, section_of}

-- by what the reader hands back
module _ (s : List ℕ) (r : Reading) (read : handed_reading r ≡ read_sheet s) where
  -- a sheet that does not read
  pub unread : {A : Type 0} (x : Result A Refusal) → IfErr x (λ q. r.verdict ≡ Err q) → None ≡ result_ok x → None ≡ section_of s
  unfolding section_of acceptable
  unread (Ok y) v e = absurd (none-some y e)
  unread (Err q) v e = rw (handed-as s r read (Err q) v, ne_eqb (number_of q) 0 (λ z. omega (arith, refusal-numbered q)))

  -- one that reads
  pub reads : {A : Type 0} (lent : A → Sheet) {y : A} (x : Result A Refusal) → IfOk x (λ z. (r.verdict ≡ (Ok tt)) × (lent z ≡ r.sheet))
      → Some y ≡ result_ok x → read_sheet s ≡ accepted (lent y)
  reads {A = A} lent (Ok z) h e = accepted-as s r read (lent z) h ∙ ap (λ (x : A). accepted (lent x)) (sym (same_Some _ z e))
  reads {A = A} lent (Err q) h e = absurd (none-some _ (sym e))

-- and by what the plain finder answers
module _ (s : List ℕ) (x : Sheet) (read : read_sheet s ≡ accepted x) where
  pub accepts : {k : ℕ} (a : Answer) → handed a ≡ asked x → Some k ≡ result_ok a → Some (x.count, x.table.n) ≡ section_of s
  unfolding section_of acceptable
  accepts (Ok step) e h = rw (read, ← e) refl
  accepts (Err q) e h = absurd (none-some _ (sym h))

  pub refuses : (a : Answer) → handed a ≡ asked x → None ≡ result_ok a → None ≡ section_of s
  unfolding section_of acceptable
  refuses (Ok step) e h = absurd (none-some step h)
  refuses (Err q) e h = rw (read, ← e, ne_eqb (number_of q) 0 (λ z. omega (arith, refusal-numbered q))) refl

picked : (test : Bool) (b m c n : ℕ) → pick {A = Option (ℕ × ℕ)} test (Some (b, m)) None ≡ Some (c, n) → (test ≡ true) × ((b ≡ c) × (m ≡ n))
picked true b m c n e = let p = same_Some _ _ e in (refl, (ap (λ x. x.0) p, ap (λ x. x.1) p))
picked false b m c n e = absurd (none-some _ e)

-- the records of an acceptable sheet stand in it
pub section-fits : (s : List ℕ) (settings n : ℕ) → section_of s ≡ Some (settings, n)
    → (settings ≤ most_settings) × ((n ≤ most_tasks) × (results_place settings n ≤ length s))
unfolding section_of acceptable sheet_in
section-fits s settings n e =
    let p = picked (acceptable s) (read_sheet s).value.count (read_sheet s).value.table.n settings n e in
    let read = accepted-by-number s (eqb-true (read_sheet s).number 0 (both_true _ _ p.0).0) in
    let w = whole s (read_sheet s).value read in
    let settings-is : (read_sheet s).value.count ≡ settings = p.1.0 in
    let n-is : (read_sheet s).value.table.n ≡ n = p.1.1 in
    let settings-stand = ap (λ (x : Sheet). x.count) w.1 in
    let tasks-stand = ap (λ (x : Sheet). x.table.n) w.1 in
    let most = few-settings w.0 in
    let few = w.0.few in
    let end = w.0.end in
    (omega arith, (omega arith, omega arith))
