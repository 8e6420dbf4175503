-- The kernel that goes by deadlines runs the earliest deadlines first, so that what is proved of every such kernel is said of one at least.
-- Assumes nothing.
use Rattle.ground.proofs.Kit.{ℕ, suc, ◌≤◌, ◌<◌, Bool, true, false, ◌≡◌, refl, sym, ◌∙◌, ap, arith, leb, ltb, le-leb, ltb-true}
use Rattle.ground.specs.Choice.{bit, both}
use Rattle.ground.proofs.Cases.{by_le}
use Rattle.ground.proofs.Totals.{total-le}
use Rattle.schedule.specs.Jobs.{Jobs, deadline, Apart}
use Rattle.schedule.specs.Schedule.{Pending}
use Rattle.schedule.proofs.Releases.{in-turn}
use Rattle.turns.specs.Ranked.{Distinct}
use Rattle.turns.proofs.Ranked.{ranked-pending, ranked-most, ranked-first}
use Rattle.turns.proofs.Pairs.{pair-le, pair_same}
use Rattle.earliest_first.specs.EarliestFirst.{running_by, EarliestFirst}
use Rattle.earliest_first.specs.ByDeadline.{deadline_turn, by_deadline}

-- a job that runs counts by a test that holds wherever another does, if it counts by that one
bit-by : (run before by : Bool) → (before ≡ true → by ≡ true) → bit (both run before) ≤ bit (both run by)
bit-by true true by h = rw (h refl) (omega arith)
bit-by true false by h = omega arith
bit-by false before by h = omega arith

module _ (m : ℕ) (jobs : Jobs) (apart : Apart jobs) where
  -- a task has one job with a deadline
  job-same : (i : ℕ) → i < jobs.tasks → (j b : ℕ) → deadline jobs i j ≡ deadline jobs i b → j ≡ b
  job-same i l j b e =
      by_le j b
      (λ o. by_le b j (λ p. omega arith) (λ p. absurd (omega (arith, in-turn jobs apart i l j b p, apart.some i l))))
      (λ o. absurd (omega (arith, in-turn jobs apart i l b j o, apart.some i l)))

  -- so the turn tells the task and the job
  turns-differ : Distinct (deadline_turn jobs) jobs
  turns-differ t i l j o a k b p e =
      let same = pair_same jobs.tasks (deadline jobs i j) i (deadline jobs a b) a l k e in
      (same.1, job-same i l j b (same.0 ∙ ap (λ (x : ℕ). deadline jobs x b) (sym same.1)))

  -- a pending job that waits has m before it that run, whose deadlines are no later
  waits-earliest : (t i j : ℕ) → i < jobs.tasks → Pending jobs (by_deadline m jobs) t i j → by_deadline m jobs t i j ≡ false
      → m ≤ running_by jobs (by_deadline m jobs) t (deadline jobs i j)
  waits-earliest t i j l pending idle =
      let turn = deadline_turn jobs t in
      let runs = by_deadline m jobs t in
      let by : ℕ → ℕ → Bool = λ a b. leb (deadline jobs a b) (deadline jobs i j) in
      let no-later : (a b : ℕ) → ltb (turn a b) (turn i j) ≡ true → by a b ≡ true =
      λ a b e. let before = ltb-true (turn a b) (turn i j) e in
      le-leb _ _ (pair-le jobs.tasks (deadline jobs a b) a (deadline jobs i j) i l (omega arith)) in
      omega (
        arith,
        ranked-first (deadline_turn jobs) m jobs turns-differ t i l j pending idle,
        total-le jobs.tasks (suc t) (λ a b. bit (both (runs a b) (ltb (turn a b) (turn i j)))) (λ a b. bit (both (runs a b) (by a b)))
            (λ a k b o. bit-by (runs a b) (ltb (turn a b) (turn i j)) (by a b) (no-later a b)),
      )

  -- there is a schedule that runs the earliest deadlines first, on any number of processors
  pub earliest-first-exists : EarliestFirst m jobs (by_deadline m jobs)
  earliest-first-exists =
      record {
        only-pending = ranked-pending (deadline_turn jobs) m jobs;
        at_most = ranked-most (deadline_turn jobs) m jobs turns-differ;
        earliest = λ t i j l pending next. waits-earliest t i j l pending;
      }
