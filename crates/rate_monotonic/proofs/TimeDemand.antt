-- The time demand test suffices: where t ticks are enough for the demand in them of the tasks with periods no longer than that of task k, each of
-- its jobs is done t ticks after its release.
-- Assumes nothing.
use Rattle.ground.proofs.Kit.{ℕ, suc, ◌+◌, ◌≤◌, ◌<◌, true, false, ◌≡◌, arith}
use native.Mathlib.Nat.{le_refl}
use Rattle.ground.proofs.Cases.{by_bool, by_le, true-false}
use Rattle.ground.proofs.Tests.{by_all}
use Rattle.schedule.specs.Jobs.{Jobs, Apart}
use Rattle.schedule.specs.Schedule.{Schedule, done, Pending}
use Rattle.schedule.proofs.Done.{done-grows, done-most}
use Rattle.schedule.proofs.Releases.{no-sooner}
use Rattle.hyperbolic.specs.Demand.{demand}
use Rattle.rate_monotonic.specs.ShortestPeriodFirst.{ShortestPeriodFirst}
use Rattle.rate_monotonic.proofs.Quiet.{quiet, LeftOver, busy-has, quiet-done, last-quiet}
use Rattle.rate_monotonic.proofs.Work.{worked, tick-works, ticks-work, works-less}

module _ (jobs : Jobs) (runs : Schedule) (apart : Apart jobs) (first : ShortestPeriodFirst jobs runs) (cost : ℕ → ℕ)
    (costs : (i j : ℕ) → i < jobs.tasks → jobs.need i j ≤ cost i) where
  -- where a job is pending, a job runs whose task has no longer a period
  some_runs : (t i j : ℕ) → i < jobs.tasks → Pending jobs runs t i j → (i' : ℕ) × (j' : ℕ) × (runs t i' j' ≡ true) × (jobs.period i' ≤ jobs.period i)
  some_runs t i j among pending = by_bool (runs t i j) (λ e. (i, j, e, le_refl (jobs.period i))) (first.shortest-first t i j among pending)

  -- in a tick after which a job of a short task is left over, a job of a short task runs
  busy-works : (T s m : ℕ) → LeftOver T jobs runs (suc s) → s < m → worked T jobs runs m s < worked T jobs runs m (suc s)
  busy-works T s m left l =
      let i = left.task in
      let j = left.job in
      let pending : Pending jobs runs s i j =
      record {
        released = omega (arith, left.released);
        unfinished = omega (arith, left.unfinished, done-grows runs i j s (suc s) (omega arith));
      } in
      let runner = some_runs s i j left.among pending in
      let allowed = first.only-pending s runner.0 runner.1 runner.2 in
      tick-works T jobs runs m s runner.0 runner.1 allowed.0 (omega (arith, runner.3, left.short))
      (omega (arith, no-sooner jobs apart runner.0 allowed.0 runner.1, allowed.1.released)) runner.2

  -- after a quiet time, not each of t ticks that are enough for their demand is busy
  not-all-busy : (T a t : ℕ) → 1 ≤ t → demand jobs.period cost jobs.tasks T t ≤ t → quiet T jobs runs a ≡ true
      → ((s : ℕ) → a < s → s ≤ a + t → quiet T jobs runs s ≡ false) → ⊥
  not-all-busy T a t some enough e all =
      let done-before = quiet-done T jobs runs apart first.only-pending a e in
      let work = ticks-work T jobs runs (a + t) a t (λ s l b. busy-works T s (a + t) (busy-has T jobs runs (suc s) (all (suc s) (omega arith) b)) b) in
      let left = busy-has T jobs runs (a + t) (all (a + t) (omega arith) (le_refl (a + t))) in
      let less = works-less T jobs runs apart first.only-pending cost costs a t done-before (a + t) (le_refl (a + t)) left in
      omega arith

  -- so a quiet time comes after the last one up to the release, and by it every job that was released before is done
  pub done-in-time : (k j t : ℕ) → k < jobs.tasks → 1 ≤ t → demand jobs.period cost jobs.tasks (jobs.period k) t ≤ t
      → done runs k j (jobs.release k j + t) ≡ jobs.need k j
  done-in-time k j t among some enough =
      let T = jobs.period k in
      let r = jobs.release k j in
      let last = last-quiet T jobs runs r in
      let later : (s : ℕ) → last.time < s → s ≤ last.time + t → quiet T jobs runs s ≡ true → r < s =
      λ s l m e. by_le s r (λ h. true-false e (last.since s l h)) (λ h. h) in
      by_all (quiet T jobs runs) last.time t
      (λ all. absurd (not-all-busy T last.time t some enough last.is-quiet all))
      (λ s l m e.
      let at-s = quiet-done T jobs runs apart first.only-pending s e k j among (le_refl T) (later s l m e) in
      let grows = done-grows runs k j s (r + t) (omega (arith, last.before)) in
      omega (arith, at-s, grows, done-most jobs runs first.only-pending k j (r + t)))
