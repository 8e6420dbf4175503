-- What the plain finder leaves in two outputs is the plan of the definition, and its sheet can always be written.
-- Assumes nothing.
use Rattle.ground.proofs.Kit.{ℕ, ◌≤◌, ◌<◌, min, true, List, [], ◌++◌, ◌≡◌, refl, sym, ◌∙◌, ap, ap₂, arith, eqb, length, get_or, drop, eq-eqb, Ok, Err}
use Rattle.ground.proofs.Kit.{ne_eqb, lt-ltb, le-ltb, ltb, false}
use lib.ListN.{get_or-append, get_or-eq_default}
use Rattle.std.specs.Result.{is_err}
use Rattle.ground.specs.Choice.{pick}
use Rattle.ground.proofs.Buffer.{list-long}
use Rattle.ground.proofs.Cases.{by_bool, by_le}
use Rattle.ground.proofs.Laid.{over-cong, padded-to-is}
use Rattle.kinds.specs.declared.Granted.{Granted}
use Rattle.kinds.specs.declared.Results.{Results}
use Rattle.kinds.specs.declared.Sheet.{Sheet}
use Rattle.kinds.specs.declared.Refusal.{Refusal}
use Rattle.kinds.specs.Limits.{most_tasks}
use Rattle.kinds.specs.Refusal.{number_of}
use Rattle.kinds.specs.Answer.{Handed, accepted, refused, handed, Answer, Counted}
use Rattle.kinds.proofs.Refusals.{refusal-numbered}
use Rattle.kinds.proofs.Answers.{handed-one}
use Rattle.kinds.proofs.Chain.{comes-first, goes_on}
use Rattle.share.specs.Table.{periods_at}
use Rattle.admission.specs.Admission.{misset_under, gate, admission}
use Rattle.outcome.specs.Plan.{processors_at, periods_after, processors_after, found, outcome, Meets}
use Rattle.outcome.proofs.Found.{accepting}
use Rattle.plain_finder.specs.Asked.{asked}
use Rattle.plain_finder.proofs.Asked.{asked-roomy}
use Rattle.sheet.specs.Sections.{longest_sheet, settings_fit, results_fit}
use Rattle.sheet.specs.Rows.{granted, no_granted, no_results}
use Rattle.sheet.proofs.Stages.{settings-few}
use Rattle.writer.specs.Encode.{encode, length_of}
use Rattle.writer.specs.Writing.{write_sheet, Writes}
use Rattle.writer.proofs.Rows.{encode-long}
use Rattle.writer.proofs.Answers.{accepts, write-accepts, accepted-after}
use Rattle.fill.specs.declared.SheetPlan.{SheetPlan}
use Rattle.fill.specs.Results.{entry_at, results_of, plan_periods, plan_processors, with_plan, after_plan, Plans}
use Rattle.fill.specs.Fill.{planned_sheet, Fills}

-- the rows of a results section: an entry in each of the first n places, and the others unused
pub results-are : (periods processors : List ℕ) (n : ℕ) (rows : List Granted) → n ≤ most_tasks → length rows ≡ most_tasks
    → ((i : ℕ) (d : Granted) → i < most_tasks → get_or rows i d ≡ pick (ltb i n) (entry_at periods processors i) no_granted)
    → record { rows = rows; n = n } ≡ results_of periods processors n
unfolding results_of
results-are periods processors n rows few long each =
    let same = padded-to-is no_granted most_tasks (entry_at periods processors) n rows few long
    (λ i l. sym (rw (lt-ltb i n l) at (each i no_granted (omega arith))))
    (λ i h. by_le most_tasks i (λ past. get_or-eq_default rows no_granted {n = i} (omega arith)) (λ l. rw (le-ltb i n h) at (each i no_granted l))) in
    ap (λ (l : List Granted). record { rows = l; n = n }) (sym same)

-- what an answer is, by its test
pub refused_by : (a : Answer) → is_err a ≡ true → (q : Refusal) × (a ≡ Err q)
refused_by (Ok k) e = absurd (let z : ◌≡◌ {A = ℕ} 0 1 = cc in omega arith)
refused_by (Err q) e = (q, refl)

pub accepted_by : (a : Answer) → is_err a ≡ false → (k : ℕ) × (a ≡ Ok k)
accepted_by (Ok k) e = (k, refl)
accepted_by (Err q) e = absurd (let z : ◌≡◌ {A = ℕ} 0 1 = cc in omega arith)

-- a sheet with other results
abbrev pub with_results : Sheet → Results → Sheet
with_results x r = record { count = x.count; settings = x.settings; table = x.table; results = r }

-- outputs for the most tasks are enough: where there are more tasks no room is asked for
asked-many : (x : Sheet) (room : ℕ) → most_tasks < x.table.n → found true x.settings x.table.rows x.table.n room ≡ asked x
unfolding asked found admission gate
asked-many x room h =
    by_bool (misset_under x.settings)
    (λ misset. rw misset)
    (λ set. rw (set, lt-ltb most_tasks x.table.n h))

asked-of-most : (x : Sheet) (room : ℕ) → most_tasks ≤ room → found true x.settings x.table.rows x.table.n room ≡ asked x
asked-of-most x room h = by_le x.table.n most_tasks (λ few. asked-roomy x room (omega arith)) (λ many. asked-many x room many)

-- a sheet that the plain finder accepts has no more tasks than there may be
pub accepted-few : (x : Sheet) (k : ℕ) → asked x ≡ accepted k → x.table.n ≤ most_tasks
unfolding asked
accepted-few x k e = (accepting true x.settings x.table.rows x.table.n x.table.n k (sym e)).ready.passed.few

-- and is written with its plan
pub sheet-planned : (x : Sheet) (k : ℕ) → asked x ≡ accepted k → planned_sheet x ≡ accepted (encode (with_plan x k))
unfolding planned_sheet
sheet-planned x k e = sym (goes_on [] (asked x) (λ j. accepted (encode (with_plan x j))) k e)

-- a sheet with a plan counts its tasks twice
pub plan-fits : (n : ℕ) → results_fit n n ≡ true
unfolding results_fit
plan-fits n = by_bool (eqb n 0) (λ e. rw e) (λ e. rw (e, eq-eqb n n refl))

module _ (x : Sheet) (ps qs ps' qs' : List ℕ) (long-ps : length ps ≡ most_tasks) (long_qs : length qs ≡ most_tasks)
    (a : Answer) (m : Meets (outcome true x.settings x.table.rows x.table.n ps qs) a ps' qs') where
  answered : handed a ≡ asked x
  unfolding outcome
  answered = m.answers ∙ asked-of-most x (min (length ps) (length qs)) (omega arith)

  -- a refusal of the plain finder leaves the sheet as it was
  pub plan-refused : (q : Refusal) → a ≡ Err q → Plans x (record { answer = a; sheet = x })
  unfolding after_plan
  plan-refused q e =
      let is : asked x ≡ refused 0 q = sym answered ∙ ap handed e in
      let not-accepted = ne_eqb (number_of q) 0 (λ z. omega (arith, refusal-numbered q)) in
      record { answers = answered; fills = rw (is, not-accepted) }

  module _ (k : ℕ) (e : a ≡ Ok k) where
    step_is : asked x ≡ accepted k
    step_is = sym answered ∙ ap handed e

    pub plan-few : x.table.n ≤ most_tasks
    plan-few = accepted-few x k step_is

    -- what stands in the outputs
    periods-are : ps' ≡ plan_periods x k ++ drop x.table.n ps
    unfolding outcome
    periods-are = m.grants ∙ ap (λ (h : Handed ℕ). periods_after h x.settings x.table.rows x.table.n ps) (sym m.answers ∙ ap handed e)

    processors-are : qs' ≡ plan_processors x k ++ drop x.table.n qs
    unfolding outcome
    processors-are = m.places ∙ ap (λ (h : Handed ℕ). processors_after h x.settings x.table.rows x.table.n qs) (sym m.answers ∙ ap handed e)

    periods-long : length (plan_periods x k) ≡ x.table.n
    unfolding periods_at
    periods-long = list-long _ x.table.n

    processors-long : length (plan_processors x k) ≡ x.table.n
    unfolding processors_at
    processors-long = list-long _ x.table.n

    -- entry by entry
    entry-is : (i : ℕ) → i < x.table.n → entry_at ps' qs' i ≡ entry_at (plan_periods x k) (plan_processors x k) i
    entry-is i l =
        let n = x.table.n in
        ap₂ granted
        (ap (λ (p : List ℕ). get_or p i 0) periods-are ∙ get_or-append (plan_periods x k) (drop n ps) 0 i (rw periods-long l))
        (ap (λ (p : List ℕ). get_or p i 0) processors-are ∙ get_or-append (plan_processors x k) (drop n qs) 0 i (rw processors-long l))

    planned-is : with_results x (results_of ps' qs' x.table.n) ≡ with_plan x k
    unfolding with_plan results_of
    planned-is =
        let n = x.table.n in
        let rows = over-cong no_results (entry_at ps' qs') (entry_at (plan_periods x k) (plan_processors x k)) n entry-is in
        ap (λ (g : List Granted). with_results x (record { rows = g; n = n })) rows

    -- an acceptance fills in the plan
    pub plan-filled : (r : Results) → r ≡ results_of ps' qs' x.table.n → Plans x (record { answer = a; sheet = with_results x r })
    unfolding after_plan
    plan-filled r is = record { answers = answered; fills = rw step_is (ap (with_results x) is ∙ planned-is) }

-- what comes of a sheet that was filled in: its refusal, or its bytes
module _ (x : Sheet) (p : SheetPlan) (plans : Plans x p) where
  pub filling-refused : (q : Refusal) → p.answer ≡ Err q → planned_sheet x ≡ refused [] q
  unfolding planned_sheet
  filling-refused q e = sym (comes-first [] (asked x) (λ k. accepted (encode (with_plan x k))) 0 q (sym plans.answers ∙ ap handed e))

  module _ (k : ℕ) (e : p.answer ≡ Ok k) where
    filled_at : asked x ≡ accepted k
    filled_at = sym plans.answers ∙ ap handed e

    pub filling-is : p.sheet ≡ with_plan x k
    unfolding after_plan
    filling-is = plans.fills ∙ rw filled_at

    planned-accepted : settings_fit x.count ≡ true → (room : ℕ) → longest_sheet ≤ room → write_sheet (with_plan x k) room ≡ accepted (length_of (with_plan x k))
    unfolding with_plan results_of
    planned-accepted taken room h =
        let most = settings-few x.count taken in
        let few = accepted-few x k filled_at in
        write-accepts (with_plan x k) room taken few (plan-fits x.table.n) (omega arith)

    pub filling-written : settings_fit x.count ≡ true → (old new : List ℕ) (w : Counted) → Writes p.sheet old w new → longest_sheet ≤ length old
        → Fills (planned_sheet x) old w new
    filling-written taken old new w written room =
        let y = with_plan x k in
        let p' : Writes y old w new = rw filling-is at written in
        let all = planned-accepted taken (length old) room in
        let long = encode-long y in
        rw (sheet-planned x k filled_at)
        (record {
          answer = p'.answer ∙ (all ∙ ap accepted (sym long));
          output = p'.buffer ∙ (accepted-after y old (length_of y) all ∙ ap (λ (n : ℕ). encode y ++ drop n old) (sym long));
          fits = omega (arith, long, (accepts y (length old) (length_of y) all).fits);
        })

-- no second answer, nor a second sheet, meets the promise of `fill_sheet`
pub plans-one : (x : Sheet) (p r : SheetPlan) → Plans x p → Plans x r → p ≡ r
plans-one x p r a b =
    ap₂ (λ (y : Answer) (z : Sheet). record { answer = y; sheet = z })
    (handed-one p.answer r.answer (a.answers ∙ sym b.answers))
    (a.fills ∙ sym b.fills)
