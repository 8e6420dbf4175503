-- The computed answer is an acceptance exactly where Ask 14's sentence holds: `accepted-agrees` and `agrees-accepted`; and 19 names the
-- first result that differs: `first-differing`.
-- Assumes nothing.
use Rattle.ground.specs.Least.{Step}
use Rattle.ground.proofs.Kit.{ℕ, ◌≤◌, ◌<◌, true, false, not, List, ◌≡◌, refl, sym, ◌∙◌, ap, ap₂, arith, eqb, leb, eq-eqb, eqb-true, le-leb, leb-true, Ok, Err, Some, None}
use Rattle.ground.proofs.Kit.{not-false}
use Rattle.ground.specs.Choice.{either}
use Rattle.ground.specs.First.{first_below, IsFirst}
use Rattle.ground.proofs.First.{first-is, first-none}
use Rattle.ground.proofs.Cases.{by_bool, true-false}
use Rattle.kinds.specs.declared.Granted.{Granted}
use Rattle.kinds.specs.declared.Sheet.{Sheet}
use Rattle.kinds.specs.declared.Refusal.TheVariants.{NoResults, WrongResult}
use Rattle.kinds.specs.Limits.{most_tasks}
use Rattle.kinds.specs.Task.{at}
use Rattle.kinds.specs.Policy.{meant}
use Rattle.kinds.specs.Answer.{accepted, Verdict}
use Rattle.kinds.proofs.Refusals.{refusal-numbered}
use Rattle.kinds.proofs.Chain.{goes_on, both-accept, judged-passed}
use Rattle.share.specs.Share.{period_at}
use Rattle.share.specs.Table.{periods_at}
use Rattle.admission.specs.Admission.{admission}
use Rattle.policy.specs.Under.{rows_under, loads_under, least_under}
use Rattle.outcome.specs.Plan.{processor_at, processors_at, decided, found}
use Rattle.plain_finder.specs.Asked.{asked}
use Rattle.sheet.specs.Rows.{granted}
use Rattle.sheet.specs.Reading.{sheet_in, read_sheet}
use Rattle.sheet.proofs.Stages.{fits-few}
use Rattle.sheet.proofs.Whole.{whole}
use Rattle.sheet.proofs.Numbered.{accepted-by-number}
use Rattle.writer.specs.Canonical.{granted_in}
use Rattle.fill.specs.Results.{with_plan}
use Rattle.ground.proofs.Buffer.{list-in}
use Rattle.filled_sheet.specs.Checked.{differ, differs_at, first_differing, compared, checked_sheet, checked}
use Rattle.filled_sheet.proofs.Agrees.{granted_at, Agrees}
use Rattle.filled_sheet.proofs.Compared.{planned-at}

-- number 0 from the plain finder is an acceptance
decided-numbered : (a : Verdict) (step : Step) → (decided a step).number ≡ 0 → decided a step ≡ accepted (decided a step).value
decided-numbered (Err r) step z = absurd (omega (arith, refusal-numbered r))
decided-numbered (Ok _) (Some k) z = refl
decided-numbered (Ok _) None z = absurd (omega arith)

asked-by-number : (x : Sheet) → (asked x).number ≡ 0 → asked x ≡ accepted (asked x).value
unfolding asked found
asked-by-number x z =
    let n = x.table.n in
    decided-numbered (admission true x.settings x.table.rows n n) (least_under x.settings x.table.rows n) z

-- results that do not differ are the same
agree : (a b : Granted) → differ a b ≡ false → a ≡ b
agree a b e =
    by_bool (eqb a.period b.period)
    (λ p.
    let q : eqb a.processor b.processor ≡ true = not-false (eqb a.processor b.processor) (rw p at e) in
    ap₂ granted (eqb-true a.period b.period p) (eqb-true a.processor b.processor q))
    (λ p. true-false {b = either (not (eqb a.period b.period)) (not (eqb a.processor b.processor))} (rw p) e)

same : (a b : Granted) → a ≡ b → differ a b ≡ false
same a b e =
    rw (eq-eqb a.period b.period (ap (λ (g : Granted). g.period) e), eq-eqb a.processor b.processor (ap (λ (g : Granted). g.processor) e))

-- result i of a sheet with its plan
pub plan-at : (x : Sheet) (k i : ℕ) → x.table.n ≤ most_tasks → i < x.table.n → granted_in (with_plan x k) i ≡ granted_at x k i
unfolding periods_at processors_at
plan-at x k i few l =
    let paid = rows_under x.settings x.table.rows x.table.n in
    let period : ℕ → ℕ = λ j. period_at x.settings.notch (at paid j) k in
    let processor = processor_at (meant x.settings.policy) x.settings.m (loads_under x.settings x.table.rows x.table.n) k in
    planned-at x k i few l ∙ ap₂ granted (list-in 0 period x.table.n i l) (list-in 0 processor x.table.n i l)

-- "naming the first result that differs": it does, and none before it
pub first-differing : (x due : Sheet) → IsFirst (differs_at x due) x.table.n (first_differing x due)
unfolding first_differing
first-differing x due = first-is (differs_at x due) x.table.n

pub read-few : (s : List ℕ) (x : Sheet) → read_sheet s ≡ accepted x → x.table.n ≤ most_tasks
unfolding sheet_in
read-few s x e = let w = whole s x e in omega (arith, ap (λ (y : Sheet). y.table.n) w.1, w.0.few)

read-counted : (s : List ℕ) (x : Sheet) → read_sheet s ≡ accepted x → x.results.n ≤ x.table.n
unfolding sheet_in
read-counted s x e =
    let w = whole s x e in
    omega (arith, ap (λ (y : Sheet). y.table.n) w.1, ap (λ (y : Sheet). y.results.n) w.1, fits-few _ _ w.0.fit)

module _ (s : List ℕ) where
  compared-agrees : (x : Sheet) (k : ℕ) → read_sheet s ≡ accepted x → asked x ≡ accepted k → compared x (with_plan x k) ≡ accepted tt → Agrees s x k
  unfolding compared
  compared-agrees x k r p e =
      let n = x.table.n in
      let differing = first_differing x (with_plan x k) in
      let first = judged-passed tt (leb n x.results.n) NoResults _ e in
      let second = judged-passed tt (leb n differing) (WrongResult differing) _ first.1 in
      let few = read-few s x r in
      record {
        reads = r;
        plans = p;
        counted = omega (arith, leb-true n x.results.n first.0, read-counted s x r);
        each =
            λ i l.
            agree (granted_in x i) (granted_in (with_plan x k) i)
            ((first-differing x (with_plan x k)).before i (omega (arith, leb-true n differing second.0)))
            ∙ plan-at x k i few l;
      }

  pub accepted-agrees : checked s ≡ accepted tt → (x : Sheet) × (k : ℕ) × Agrees s x k
  unfolding checked checked_sheet
  accepted-agrees e =
      let a = both-accept tt (read_sheet s) checked_sheet tt e in
      let x = (read_sheet s).value in
      let b = both-accept tt (asked x) (λ k. compared x (with_plan x k)) tt a.1 in
      (x, (asked x).value, compared-agrees x (asked x).value (accepted-by-number s a.0) (asked-by-number x b.0) b.1)

  pub agrees-accepted : (x : Sheet) (k : ℕ) → Agrees s x k → checked s ≡ accepted tt
  unfolding checked checked_sheet compared first_differing
  agrees-accepted x k g =
      let n = x.table.n in
      let few = read-few s x g.reads in
      let alike : (i : ℕ) → i < n → differs_at x (with_plan x k) i ≡ false =
      λ i l. same (granted_in x i) (granted_in (with_plan x k) i) (g.each i l ∙ sym (plan-at x k i few l)) in
      let none : n ≡ first_below (differs_at x (with_plan x k)) n = first-none (differs_at x (with_plan x k)) n n alike refl in
      sym (goes_on tt (read_sheet s) checked_sheet x g.reads)
      ∙ (sym (goes_on tt (asked x) (λ j. compared x (with_plan x j)) k g.plans)
      ∙ rw (le-leb n x.results.n (omega (arith, g.counted)), ← none, le-leb n n (omega arith)))
