-- Where a tick comes in S parts, the wrap is a fluid kernel, so that what is proved of every such kernel is said of one at least.
-- Assumes nothing.
use Rattle.ground.proofs.Kit.{ℕ, zero, suc, ◌+◌, ◌*◌, ◌/◌, ◌%◌, ◌≤◌, ◌<◌, true, ◌≡◌, ◌∙◌, ap, le_trans, mul-le-mul_right, arith, ltb, lt-ltb, ltb-true}
use native.Mathlib.Nat.{mul-add-div_right, mul-add-mod_self_right, mod-eq_of_lt, div-eq_of_lt, div-mul-le_self, mul-div_cancel}
use Rattle.ground.specs.Choice.{bit}
use Rattle.ground.specs.Folds.{sum_to, count_to}
use Rattle.ground.specs.Total.{total}
use Rattle.ground.proofs.Cases.{by_bool, by_le, both_true, true-false}
use Rattle.ground.proofs.Folds.{sum-le, sum-most, count-cong}
use Rattle.ground.proofs.Tests.{bit-some, bit-most}
use Rattle.ground.proofs.Sums.{sum_one}
use Rattle.schedule.specs.Jobs.{Jobs, deadline, Apart, Covers}
use Rattle.schedule.specs.Schedule.{Schedule, done, running, MeetsDeadlines}
use Rattle.schedule.proofs.Done.{done_more}
use Rattle.schedule.proofs.Releases.{in-turn}
use Rattle.fluid.specs.Fluid.{Shareable, Fluid}
use Rattle.fluid.specs.Parts.{in_parts}
use Rattle.fluid.specs.Wrapped.{is_in, has_part, wrapped}
use Rattle.fluid.proofs.Line.{in-found, in-passes}
use Rattle.fluid.proofs.Deadlines.{fluid-meets, covers-parts}
use Rattle.fluid.proofs.Shared.{load-had, tasks-most}

module _ (m S : ℕ) (load : ℕ → ℕ) (jobs : Jobs) (share : Shareable m S jobs.tasks load) where
  -- what runs in part u
  abbrev runs : Schedule
  runs = wrapped m S load jobs

  -- is a job of a task, released and not yet due in the tick, and the task has the part
  run_is : (u i j : ℕ) → runs u i j ≡ true
      → (i < jobs.tasks) × (jobs.release i j ≤ u / S) × (u / S < deadline jobs i j) × (has_part load S m i (u % S) ≡ true)
  unfolding wrapped
  run_is u i j e =
      let task = both_true (ltb i jobs.tasks) _ e in
      let parts = both_true (is_in (jobs.release i j) (deadline jobs i j) (u / S)) _ task.1 in
      let now = in-found _ _ (u / S) parts.0 in
      (ltb-true i jobs.tasks task.0, now.0, now.1, parts.1)

  -- part q of a tick t in which the job is released and not yet due
  part-is : (t q i j : ℕ) → q < S → i < jobs.tasks → jobs.release i j ≤ t → t < deadline jobs i j
      → runs (t * S + q) i j ≡ has_part load S m i q
  unfolding wrapped
  part-is t q i j small task begun open-still =
      let tick : (t * S + q) / S ≡ t = mul-add-div_right share.some t q ∙ (ap (λ (x : ℕ). t + x) (div-eq_of_lt small) ∙ omega arith) in
      let part : (t * S + q) % S ≡ q = mul-add-mod_self_right t S q ∙ mod-eq_of_lt small in
      rw (tick, part, lt-ltb i jobs.tasks task, in-passes (jobs.release i j) (deadline jobs i j) t begun open-still)

  -- the work of n parts after u
  work-on : (i j u n : ℕ) → done runs i j (u + n) ≡ done runs i j u + count_to (λ q. runs (u + q) i j) n
  unfolding count_to
  work-on i j u zero = let e : u + 0 ≡ u = omega arith in omega (arith, ap (done runs i j) e)
  work-on i j u (suc n) =
      let e : u + suc n ≡ suc (u + n) = omega arith in
      omega (arith, ap (done runs i j) e, done_more runs i j (u + n), work-on i j u n)

  module _ (apart : Apart jobs) where
    -- so many ticks after its release, up to its deadline, a job has been given its load as many times
    given : (i : ℕ) → i < jobs.tasks → (j d : ℕ) → d ≤ jobs.period i → load i * d ≤ done runs i j ((jobs.release i j + d) * S)
    given i l j zero h = omega arith
    given i l j (suc d) h =
        let t = jobs.release i j + d in
        let end : (jobs.release i j + suc d) * S ≡ t * S + S = omega arith in
        let had = count-cong (λ q. runs (t * S + q) i j) (has_part load S m i) S (λ q o. part-is t q i j o l (omega arith) (omega arith)) in
        omega (
          arith,
          given i l j d (omega arith),
          ap (done runs i j) end,
          work-on i j (t * S) S,
          had,
          load-had load S m jobs.tasks i l (share.one i l) share.all,
        )

    -- a task has one job at most that is released and not yet due, and runs it where it has the part
    task-runs : (u i n : ℕ) → i < jobs.tasks → sum_to (λ j. bit (runs u i j)) n ≤ bit (has_part load S m i (u % S))
    task-runs u i n l =
        by_bool (has_part load S m i (u % S))
        (λ e. rw e (sum_one (λ j. bit (runs u i j)) n (λ j o. bit-most (runs u i j))
        (λ j b o p x y.
        let first = run_is u i j (bit-some _ x) in
        let other = run_is u i b (bit-some _ y) in
        by_le j b
        (λ r. by_le b j (λ s. omega arith) (λ s. absurd (omega (arith, in-turn jobs apart i l j b s, first.2, other.1))))
        (λ r. absurd (omega (arith, in-turn jobs apart i l b j r, first.1, other.2))))))
        (λ e. rw e (le_trans (sum-most (λ j. bit (runs u i j)) n 0 (λ j o. by_bool (runs u i j)
        (λ t. true-false (run_is u i j t).3 e) (λ t. omega (arith, ap bit t)))) (omega arith)))

    -- at most m jobs run in a part
    most : (u : ℕ) → running (in_parts S jobs) runs u ≤ m
    unfolding total
    most u =
        omega (
          arith,
          sum-le (λ i. sum_to (λ j. bit (runs u i j)) (suc u)) (λ i. bit (has_part load S m i (u % S))) jobs.tasks (λ i l. task-runs u i (suc u) l),
          tasks-most load S (u % S) jobs.tasks m,
        )

    -- there is a fluid kernel on m processors, in parts of a tick
    pub fluid-exists : Fluid m S load (in_parts S jobs) runs
    fluid-exists =
        record {
          only-released = λ u i j e. let run = run_is u i j e in (run.0, omega (arith, mul-le-mul_right S run.1, div-mul-le_self u S));
          at_most = most;
          given = λ i l j.
              let whole : load i * (jobs.period i * S) ≡ load i * jobs.period i * S = omega arith in
              let end : jobs.release i j * S + jobs.period i * S ≡ deadline jobs i j * S = omega arith in
              rw (whole, mul-div_cancel (load i * jobs.period i) share.some, end) (given i l j (jobs.period i) (omega arith));
        }

-- so where m processors can share the loads, there is a kernel in parts of a tick, and it meets every deadline
pub parts-met : (m S : ℕ) (load : ℕ → ℕ) (jobs : Jobs) → Shareable m S jobs.tasks load → Apart jobs → Covers load S jobs
    → (runs : Schedule) × Fluid m S load (in_parts S jobs) runs × MeetsDeadlines (in_parts S jobs) runs
parts-met m S load jobs share apart covers =
    let fluid = fluid-exists m S load jobs share apart in
    (_, fluid, fluid-meets m S load (in_parts S jobs) _ share.some (covers-parts S load jobs covers) fluid)
