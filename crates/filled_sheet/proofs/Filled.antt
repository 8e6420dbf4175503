-- Ask 14: "Each sheet our program fills in is accepted", `filled-accepted`; and of two accepted sheets with the same settings and tasks the
-- results are the same, `same-results`.
-- Assumes nothing.
use Rattle.ground.proofs.Kit.{ℕ, ◌≤◌, List, ◌≡◌, refl, sym, ◌∙◌, ap, ap₂, arith, length}
use lib.Seq.{ext_get_or}
use Rattle.ground.proofs.Cases.{by_le}
use Rattle.ground.proofs.Laid.{padded-to-long, padded-to-out}
use Rattle.kinds.specs.declared.Granted.{Granted}
use Rattle.kinds.specs.declared.Sheet.{Sheet}
use Rattle.kinds.specs.Limits.{most_tasks}
use Rattle.kinds.specs.Answer.{Handed, accepted}
use Rattle.plain_finder.specs.Asked.{asked}
use Rattle.field.specs.Number.{Bytes}
use Rattle.sheet.specs.Rows.{no_granted}
use Rattle.sheet.specs.Reading.{sheet_in, read_sheet}
use Rattle.sheet.proofs.Whole.{whole, whole-accepted}
use Rattle.writer.specs.Encode.{encode}
use Rattle.writer.specs.Canonical.{granted_in}
use Rattle.fill.specs.Results.{results_of, with_plan}
use Rattle.fill.specs.Fill.{filled}
use Rattle.fill.proofs.Readings.{filled-planned}
use Rattle.fill.proofs.Again.{reads-again}
use Rattle.fill.proofs.Held.{plan-room, plan-unused}
use Rattle.filled_sheet.specs.Checked.{checked}
use Rattle.filled_sheet.proofs.Agrees.{Agrees}
use Rattle.filled_sheet.proofs.Exactly.{plan-at, read-few, accepted-agrees, agrees-accepted}

-- a sheet with its plan agrees
plan-agrees : (x : Sheet) (k : ℕ) → x.table.n ≤ most_tasks → asked x ≡ accepted k → (s : List ℕ) → read_sheet s ≡ accepted (with_plan x k)
    → Agrees s (with_plan x k) k
unfolding with_plan results_of asked
plan-agrees x k few p s r = record { reads = r; plans = p; counted = refl; each = λ i l. plan-at x k i few l }

pub filled-accepted : (s : List ℕ) → Bytes s → (x : Sheet) → read_sheet s ≡ accepted x → (k : ℕ) → asked x ≡ accepted k → checked (filled s) ≡ accepted tt
filled-accepted s bytes x read k e =
    let w = whole s x read in
    let p : asked (sheet_in s) ≡ accepted k = rw w.1 at e in
    let there = whole-accepted s w.0 in
    let is : filled s ≡ encode (with_plan (sheet_in s) k) = filled-planned s (sheet_in s) k there p in
    rw is
    (agrees-accepted (encode (with_plan (sheet_in s) k)) (with_plan (sheet_in s) k) k
    (plan-agrees (sheet_in s) k (read-few s (sheet_in s) there) p (encode (with_plan (sheet_in s) k)) (reads-again s bytes w.0 k p)))

-- the results of a sheet that agrees are those of its plan, the unused places included
read-room : (s : List ℕ) (x : Sheet) → read_sheet s ≡ accepted x → length x.results.rows ≡ most_tasks
unfolding sheet_in
read-room s x e = rw (whole s x e).1 (padded-to-long no_granted most_tasks _ _)

read-unused : (s : List ℕ) (x : Sheet) → read_sheet s ≡ accepted x → (i : ℕ) → x.results.n ≤ i → granted_in x i ≡ no_granted
unfolding sheet_in
read-unused s x e i = rw (whole s x e).1 (padded-to-out no_granted most_tasks _ _ i)

plan-counted : (x : Sheet) (k : ℕ) → x.table.n ≡ (with_plan x k).results.n
unfolding with_plan results_of
plan-counted x k = refl

agrees-planned : (s : List ℕ) (x : Sheet) (k : ℕ) → Agrees s x k → x.results ≡ (with_plan x k).results
agrees-planned s x k g =
    let n = x.table.n in
    let few = read-few s x g.reads in
    let rows : x.results.rows ≡ (with_plan x k).results.rows =
    ext_get_or no_granted x.results.rows (with_plan x k).results.rows (read-room s x g.reads ∙ sym (plan-room x k))
    (λ i l. by_le n i
    (λ h. read-unused s x g.reads i (omega (arith, g.counted)) ∙ sym (plan-unused x k i h))
    (λ h. g.each i h ∙ sym (plan-at x k i few h))) in
    ap₂ (λ (l : List Granted) (c : ℕ). record { rows = l; n = c }) rows (g.counted ∙ plan-counted x k)

-- settings and tasks settle the step and the plan
same-plan : (x y : Sheet) → x.settings ≡ y.settings → x.table ≡ y.table → (j k : ℕ) → asked x ≡ accepted j → asked y ≡ accepted k
    → (with_plan x j).results ≡ (with_plan y k).results
unfolding with_plan asked
same-plan x y s t j k p q =
    let both : accepted j ≡ accepted k = sym p ∙ rw (s, t) q in
    let e : j ≡ k = ap (λ (h : Handed ℕ). h.value) both in
    rw (s, t, e)

pub same-results : (a b : List ℕ) → checked a ≡ accepted tt → checked b ≡ accepted tt
    → (read_sheet a).value.settings ≡ (read_sheet b).value.settings → (read_sheet a).value.table ≡ (read_sheet b).value.table
    → (read_sheet a).value.results ≡ (read_sheet b).value.results
same-results a b p q settings table =
    let (x, j, g) = accepted-agrees a p in
    let (y, k, h) = accepted-agrees b q in
    let is_x = ap (λ (r : Handed Sheet). r.value) g.reads in
    let is_y = ap (λ (r : Handed Sheet). r.value) h.reads in
    rw (is_x, is_y)
    (agrees-planned a x j g ∙ (same-plan x y (rw (is_x, is_y) at settings) (rw (is_x, is_y) at table) j k g.plans h.plans ∙ sym (agrees-planned b y k h)))
