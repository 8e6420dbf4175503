-- The kernel that goes by periods runs the shortest period first, so that what is proved of every such kernel is said of one at least.
-- Assumes nothing.
use Rattle.ground.proofs.Kit.{ℕ, suc, ◌+◌, ◌*◌, ◌≤◌, ◌<◌, true, false, ◌≡◌, arith, ltb, ltb-true}
use Rattle.ground.specs.Choice.{both}
use Rattle.ground.proofs.Cases.{both_true}
use Rattle.ground.proofs.Totals.{total-some}
use Rattle.schedule.specs.Jobs.{Jobs, Apart}
use Rattle.schedule.specs.Schedule.{Pending}
use Rattle.schedule.proofs.Releases.{no-sooner}
use Rattle.turns.specs.Ranked.{Distinct}
use Rattle.turns.proofs.Ranked.{ranked-pending, ranked-most, ranked-first}
use Rattle.turns.proofs.Pairs.{pair-le, pair_same}
use Rattle.rate_monotonic.specs.ShortestPeriodFirst.{ShortestPeriodFirst}
use Rattle.rate_monotonic.specs.ByPeriod.{period_turn, by_period}

module _ (jobs : Jobs) (apart : Apart jobs) where
  -- a task's place among the tasks: by period, and of equal periods by number
  abbrev task_turn : ℕ → ℕ
  task_turn i = jobs.period i * jobs.tasks + i

  -- the turn tells the task and the job
  turns-differ : Distinct (period_turn jobs) jobs
  turns-differ t i l j o a k b p e =
      let same = pair_same (suc t) (task_turn i) j (task_turn a) b o p e in
      ((pair_same jobs.tasks (jobs.period i) i (jobs.period a) a l k same.0).1, same.1)

  -- a pending job that waits has one before it that runs, whose task has no longer a period
  waits-shortest : (t i j : ℕ) → i < jobs.tasks → Pending jobs (by_period jobs) t i j → by_period jobs t i j ≡ false
      → (a : ℕ) × (b : ℕ) × (by_period jobs t a b ≡ true) × (jobs.period a ≤ jobs.period i)
  waits-shortest t i j l pending idle =
      let turn = period_turn jobs t in
      let one = total-some jobs.tasks (suc t) (λ a b. both (by_period jobs t a b) (ltb (turn a b) (turn i j)))
      (ranked-first (period_turn jobs) 1 jobs turns-differ t i l j pending idle) in
      let a = one.0 in
      let b = one.1 in
      let tests = both_true (by_period jobs t a b) (ltb (turn a b) (turn i j)) one.4 in
      let before = ltb-true (turn a b) (turn i j) tests.1 in
      let early : j < suc t = omega (arith, no-sooner jobs apart i l j, pending.released) in
      let task = pair-le (suc t) (task_turn a) b (task_turn i) j early (omega arith) in
      (a, b, tests.0, pair-le jobs.tasks (jobs.period a) a (jobs.period i) i l task)

  -- there is a schedule on one core that runs the shortest period first
  pub shortest-first-exists : ShortestPeriodFirst jobs (by_period jobs)
  shortest-first-exists =
      record {
        only-pending = ranked-pending (period_turn jobs) 1 jobs;
        at_most = ranked-most (period_turn jobs) 1 jobs turns-differ;
        shortest-first = waits-shortest;
      }
