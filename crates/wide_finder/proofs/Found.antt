-- What an accepted answer has passed, so that its plan may be written.
-- Assumes nothing.
use Rattle.ground.specs.Least.{Step}
use Rattle.ground.proofs.Kit.{ℕ, ◌≤◌, ◌<◌, min, List, ◌++◌, ◌≡◌, refl, sym, ◌∙◌, arith, ltb, length, drop, ltb-false, Ok, Err, Some, None}
use lib.Dec.{lit≤}
use Rattle.kinds.specs.declared.Refusal.{Refusal}
use Rattle.kinds.specs.declared.Refusal.TheVariants.{BadRecord, NoStepPasses}
use Rattle.kinds.specs.Answer.{accepted, handed}
use Rattle.kinds.specs.Limits.{most_processors}
use Rattle.std.specs.Prelude.{ok_or}
use Rattle.wide_task.specs.WideTask.{at, Good}
use Rattle.admission.specs.Admission.{and_then, misset, gate, roomy}
use Rattle.admission.proofs.Chain.{Few, Unlike, unchecked, gate-passed, roomy-passed, then-admitted, check-unlike, then-unlike, gate-unlike, roomy-unlike}
use Rattle.outcome.specs.Plan.{decided, Meets}
use Rattle.outcome.proofs.Found.{decided-accepted, decided-seven}
use Rattle.outcome.proofs.Writing.{written-kept}
use Rattle.wide_task.specs.declared.WideTask.{WideTask}
use Rattle.wide_task.specs.declared.WideTable.{WideTable}
use Rattle.wide_finder.specs.Table.{first_bad, cores_sum, least_step, periods_at, core_counts_at}
use Rattle.wide_finder.specs.Wide.{records_good, admission, found, outcome}
use Rattle.wide_finder.specs.Handover.{LetsIn}
use Rattle.wide_finder.proofs.Tables.{good-table, step_same, periods-same, core-counts-same}
use Rattle.wide_finder.proofs.Passing.{cores-fit, step-at}

-- what an admitted call has passed
pub record Ready (m : ℕ) (rows : List WideTask) (n room : ℕ) : Type 0 where
  pub passed : Few m n
  pub roomy : n ≤ room
  pub none-bad : n ≤ first_bad rows n

pub admitted : (m : ℕ) (rows : List WideTask) (n room : ℕ) → admission m rows n room ≡ (Ok tt) → Ready m rows n room
unfolding admission
admitted m rows n room e =
    let a = then-admitted _ _ e in
    let b = then-admitted _ _ a.0 in
    record { passed = gate-passed m n b.0; roomy = roomy-passed n room b.1; none-bad = ltb-false _ _ (unchecked _ _ _ a.1).0 }

-- an admission does not refuse by 7, so 7 comes from the search for a step
admission-unlike : (m : ℕ) (rows : List WideTask) (n room : ℕ) → Unlike 7 (admission m rows n room)
unfolding admission
admission-unlike m rows n room =
    let bad = first_bad rows n in
    then-unlike 7 (and_then (gate (misset m) n) (roomy n room)) (records_good rows n)
    (then-unlike 7 (gate (misset m) n) (roomy n room) (gate-unlike (misset m) n 7 (lit≤ tt)) (roomy-unlike n room 7 (lit≤ tt)))
    (check-unlike 7 (ltb bad n) (BadRecord bad) (Ok tt) (λ e. omega arith) (λ e. omega arith))

pub refused-seven : (m : ℕ) (rows : List WideTask) (n room : ℕ) → (found m rows n room).number ≡ 7
    → (admission m rows n room ≡ (Ok tt)) × (least_step m rows n ≡ None)
unfolding found
refused-seven m rows n room e = decided-seven _ _ (admission-unlike m rows n room) e

pub record Accepting (m : ℕ) (rows : List WideTask) (n room k : ℕ) : Type 0 where
  pub ready : Ready m rows n room
  pub step : least_step m rows n ≡ Some k

pub accepting : (m : ℕ) (rows : List WideTask) (n room k : ℕ) → accepted k ≡ found m rows n room → Accepting m rows n room k
unfolding found
accepting m rows n room k e =
    let d = decided-accepted _ _ k e in
    record { ready = admitted m rows n room d.0; step = d.1 }

-- as the finder works it out: the refusal of the admission, or the least step where there is one
pub refused-found : (m : ℕ) (rows : List WideTask) (n room : ℕ) (r : Refusal) → admission m rows n room ≡ Err r → handed (Err r) ≡ found m rows n room
unfolding found
refused-found m rows n room r e = rw e

-- what the step that was searched for comes to
pub step-in : (step : Step) (k : ℕ) → ok_or step NoStepPasses ≡ Ok k → step ≡ Some k
step-in (Some j) k e = cc
step-in None k e = cc

answered : (step : Step) → handed (ok_or step NoStepPasses) ≡ decided (Ok tt) step
answered (Some k) = refl
answered None = refl

-- of a table that is let in
module _ (m : ℕ) (t : WideTable) (room : ℕ) (rows : List WideTask) (let-in : LetsIn m t room rows) where
  ready : Ready m t.rows t.n room
  ready = admitted m t.rows t.n room let-in.passed

  pub good-rows : (i : ℕ) → i < length rows → Good (at rows i)
  good-rows i l =
      let h : i < t.n = omega (arith, let-in.long) in
      rw (let-in.same i h) ((good-table t ready.passed.few ready.none-bad).good i h)

  step-found : (step : Step) → step ≡ least_step m rows (length rows) → step ≡ least_step m t.rows t.n
  step-found step e = e ∙ rw let-in.long (step_same rows t.rows t.n let-in.same m)

  -- its outputs have room
  pub room-in : length rows ≤ room
  room-in = omega (arith, let-in.long, ready.roomy)

  pub admitted-found : (step : Step) → step ≡ least_step m rows (length rows) → handed (ok_or step NoStepPasses) ≡ found m t.rows t.n room
  unfolding found
  admitted-found step e = answered step ∙ rw (let-in.passed, step-found step e)

  -- a step that passes: its cores fit the processors
  pub cores-fit-in : (k : ℕ) → Some k ≡ least_step m rows (length rows) → cores_sum rows (length rows) k ≤ most_processors
  cores-fit-in k e =
      omega (arith, ready.passed.m-most, cores-fit m rows (length rows) k (step-at m rows (length rows) k (sym e)).passes)

-- a refusal leaves the outputs as they are, and an acceptance has written its step's
module _ (m : ℕ) (t : WideTable) (room : ℕ) (periods cores : List ℕ) (shorter : room ≡ min (length periods) (length cores)) where
  pub meets-refused : (r : Refusal) → handed (Err r) ≡ found m t.rows t.n room → Meets (outcome m t.rows t.n periods cores) (Err r) periods cores
  unfolding outcome
  meets-refused r e =
      let f = rw shorter at e in
      record {
        answers = f;
        grants = rw (← f) (sym (written-kept (Err r) (periods_at t.rows t.n 0) t.n periods refl));
        places = rw (← f) (sym (written-kept (Err r) (core_counts_at t.rows t.n 0) t.n cores refl));
      }

  pub meets-accepted : (rows : List WideTask) (new-periods new-cores : List ℕ) (k : ℕ)
      → LetsIn m t room rows → Some k ≡ least_step m rows (length rows)
      → new-periods ≡ periods_at rows (length rows) k ++ drop (length rows) periods
      → new-cores ≡ core_counts_at rows (length rows) k ++ drop (length rows) cores
      → Meets (outcome m t.rows t.n periods cores) (Ok k) new-periods new-cores
  unfolding outcome
  meets-accepted rows new-periods new-cores k let-in e p q =
      let f = rw shorter at (admitted-found m t room rows let-in (Some k) e) in
      record {
        answers = f;
        grants = rw (← f, ← periods-same rows t.rows t.n let-in.same k, ← let-in.long) p;
        places = rw (← f, ← core-counts-same rows t.rows t.n let-in.same k, ← let-in.long) q;
      }
