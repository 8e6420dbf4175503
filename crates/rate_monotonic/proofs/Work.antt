-- The work done on the jobs of the tasks with a period of at most T.
-- Assumes nothing.
use Rattle.ground.proofs.Kit.{ℕ, zero, suc, ◌+◌, ◌*◌, ◌≤◌, ◌<◌, true, ◌≡◌, ap, le_trans, arith, leb, le-leb, leb-true, lt-ltb}
use native.Mathlib.Nat.{lt_of_lt_of_le}
use Rattle.ground.specs.Choice.{bit, pick}
use Rattle.ground.specs.Folds.{sum_to}
use Rattle.ground.specs.Rounding.{ceil_div}
use Rattle.ground.proofs.Cases.{by_bool, by_le}
use Rattle.ground.proofs.Folds.{sum-le}
use Rattle.ground.proofs.Sums.{sum-plus, sum_lt}
use Rattle.schedule.specs.Jobs.{Jobs, Apart}
use Rattle.schedule.specs.Schedule.{Schedule, done, OnlyPending}
use Rattle.schedule.proofs.Releases.{no-sooner}
use Rattle.schedule.proofs.Done.{done_more, done-grows, done-most, done-late}
use Rattle.hyperbolic.specs.Demand.{among_short, demand}
use Rattle.rate_monotonic.proofs.Releases.{released_in, work-most}
use Rattle.rate_monotonic.proofs.Quiet.{LeftOver}

-- the work done before t on the first m jobs of task i
unfoldable pub done_of : Schedule → ℕ → ℕ → ℕ → ℕ
done_of runs m t i = sum_to (λ j. done runs i j t) m

-- and on those of the tasks with a period of at most T
unfoldable pub worked : ℕ → Jobs → Schedule → ℕ → ℕ → ℕ
worked T jobs runs m t = sum_to (among_short jobs.period T (done_of runs m t)) jobs.tasks

module _ (T : ℕ) (jobs : Jobs) (runs : Schedule) (m : ℕ) where
  -- a tick in which such a job runs adds to the work
  pub tick-works : (t i j : ℕ) → i < jobs.tasks → jobs.period i ≤ T → j < m → runs t i j ≡ true → worked T jobs runs m t < worked T jobs runs m (suc t)
  unfolding worked done_of
  tick-works t i j b short l e =
      sum_lt _ _ jobs.tasks i
      (λ k _. by_bool (leb (jobs.period k) T)
      (λ h. rw h (sum-le _ _ m (λ q _. done-grows runs k q t (suc t) (omega arith))))
      (λ h. rw h (omega arith)))
      b
      (rw (le-leb (jobs.period i) T short)
      (sum_lt _ _ m j (λ q _. done-grows runs i q t (suc t) (omega arith)) l (omega (arith, done_more runs i j t, ap bit e))))

  -- and as many such ticks as much
  pub ticks-work : (a t : ℕ) → ((s : ℕ) → a ≤ s → s < a + t → worked T jobs runs m s < worked T jobs runs m (suc s))
      → worked T jobs runs m a + t ≤ worked T jobs runs m (a + t)
  ticks-work a zero h = let e : a + 0 ≡ a = omega arith in rw e (omega arith)
  ticks-work a (suc t) h =
      let e : a + suc t ≡ suc (a + t) = omega arith in
      rw e (omega (arith, ticks-work a t (λ s l b. h s l (omega arith)), h (a + t) (omega arith) (omega arith)))

-- from a quiet time a on, the t ticks after it
module _ (T : ℕ) (jobs : Jobs) (runs : Schedule) (apart : Apart jobs) (only : OnlyPending jobs runs) (cost : ℕ → ℕ)
    (costs : (i j : ℕ) → i < jobs.tasks → jobs.need i j ≤ cost i) (a t : ℕ)
    (quiet : (i j : ℕ) → i < jobs.tasks → jobs.period i ≤ T → jobs.release i j < a → done runs i j a ≡ jobs.need i j) where
  -- what the job needs where it is released in these ticks
  abbrev fresh : ℕ → ℕ → ℕ
  fresh i j = pick (released_in jobs a t i j) (jobs.need i j) 0

  -- which is all that it needs then
  fresh_in : (i j : ℕ) → a ≤ jobs.release i j → jobs.release i j < a + t → fresh i j ≡ jobs.need i j
  fresh_in i j l h = rw (le-leb a (jobs.release i j) l, lt-ltb (jobs.release i j) (a + t) h)

  -- a job is worked on no more than that
  job-most : (i j : ℕ) → i < jobs.tasks → jobs.period i ≤ T → done runs i j (a + t) ≤ done runs i j a + fresh i j
  job-most i j b short =
      by_le a (jobs.release i j)
      (λ l. by_le (a + t) (jobs.release i j)
      (λ h. omega (arith, done-late jobs runs only i j (a + t) h))
      (λ h. omega (arith, fresh_in i j l h, done-most jobs runs only i j (a + t))))
      (λ l. omega (arith, quiet i j b short l, done-most jobs runs only i j (a + t)))

  -- and less where it was released before their end and is not done at their end
  job-less : (i j : ℕ) → i < jobs.tasks → jobs.period i ≤ T → jobs.release i j < a + t → done runs i j (a + t) < jobs.need i j
      → done runs i j (a + t) < done runs i j a + fresh i j
  job-less i j b short h left =
      by_le a (jobs.release i j)
      (λ l. omega (arith, fresh_in i j l h))
      (λ l. omega (arith, quiet i j b short l, done-grows runs i j a (a + t) (omega arith)))

  module _ (m : ℕ) where
    -- all jobs of a task that are released in these ticks need at most its part of the demand
    task-fresh : (i : ℕ) → i < jobs.tasks → sum_to (λ j. done runs i j a + fresh i j) m ≤ done_of runs m a i + ceil_div t (jobs.period i) * cost i
    unfolding done_of
    task-fresh i b =
        omega (arith, sum-plus (λ j. done runs i j a) (fresh i) m, work-most jobs apart i b a t (cost i) (λ j. costs i j b) m)

    -- so a task is worked on no more than that
    task-most : (i : ℕ) → i < jobs.tasks → jobs.period i ≤ T → done_of runs m (a + t) i ≤ done_of runs m a i + ceil_div t (jobs.period i) * cost i
    unfolding done_of
    task-most i b short = le_trans (sum-le _ _ m (λ j _. job-most i j b short)) (task-fresh i b)

    -- and less where one of its jobs is left over
    task-less : (i j : ℕ) → i < jobs.tasks → jobs.period i ≤ T → j < m → jobs.release i j < a + t → done runs i j (a + t) < jobs.need i j
        → done_of runs m (a + t) i < done_of runs m a i + ceil_div t (jobs.period i) * cost i
    unfolding done_of
    task-less i j b short l h left =
        lt_of_lt_of_le (sum_lt _ _ m j (λ q _. job-most i q b short) l (job-less i j b short h left)) (task-fresh i b)

    -- so where a job is left over at their end, less work is done in them than their demand
    pub works-less : a + t ≤ m → LeftOver T jobs runs (a + t)
        → worked T jobs runs m (a + t) < worked T jobs runs m a + demand jobs.period cost jobs.tasks T t
    unfolding worked
    works-less far left =
        let i = left.task in
        let j = left.job in
        let early : j < m = omega (arith, no-sooner jobs apart i left.among j, left.released) in
        let worked-before = among_short jobs.period T (done_of runs m a) in
        let demanded : ℕ → ℕ = λ k. ceil_div t (jobs.period k) * among_short jobs.period T cost k in
        let less = sum_lt (among_short jobs.period T (done_of runs m (a + t))) (λ k. worked-before k + demanded k) jobs.tasks i
        (λ k b. by_bool (leb (jobs.period k) T) (λ e. rw e (task-most k b (leb-true _ _ e))) (λ e. rw e (omega arith)))
        left.among
        (rw (le-leb (jobs.period i) T left.short) (task-less i j left.among left.short early left.released left.unfinished)) in
        omega (arith, less, sum-plus worked-before demanded jobs.tasks)
