-- Quiet times, among the tasks with a period of at most T: those at which every job that was released before is done.
-- Assumes nothing.
use Rattle.ground.proofs.Kit.{ℕ, zero, suc, ◌≤◌, ◌<◌, Bool, true, false, not, ◌≡◌, refl, arith, leb, ltb, le-leb, leb-true, lt-ltb, ltb-true, ltb-false}
use Rattle.ground.proofs.Kit.{not-true, not-false}
use Rattle.ground.specs.Choice.{both}
use Rattle.ground.specs.Folds.{any_to}
use Rattle.ground.proofs.Cases.{by_bool, by_le, both_true, true-false}
use Rattle.ground.proofs.Tests.{any-finds, any-fails}
use Rattle.schedule.specs.Jobs.{Jobs, Apart}
use Rattle.schedule.specs.Schedule.{Schedule, done, OnlyPending}
use Rattle.schedule.proofs.Done.{done-most}
use Rattle.schedule.proofs.Releases.{no-sooner}

-- the job was released before u and is not done at u
abbrev left_over : Jobs → Schedule → ℕ → ℕ → ℕ → Bool
left_over jobs runs u i j = both (ltb (jobs.release i j) u) (ltb (done runs i j u) (jobs.need i j))

-- at u no such job of a short task is left over
pub quiet : ℕ → Jobs → Schedule → ℕ → Bool
quiet T jobs runs u = not (any_to (λ i. both (leb (jobs.period i) T) (any_to (left_over jobs runs u i) u)) jobs.tasks)

-- a job that is left over at u
pub record LeftOver (T : ℕ) (jobs : Jobs) (runs : Schedule) (u : ℕ) : Type 0 where
  pub task : ℕ
  pub job : ℕ
  pub among : task < jobs.tasks
  pub short : jobs.period task ≤ T
  pub released : jobs.release task job < u
  pub unfinished : done runs task job u < jobs.need task job

-- the last quiet time up to r
pub record LastQuiet (T : ℕ) (jobs : Jobs) (runs : Schedule) (r : ℕ) : Type 0 where
  pub time : ℕ
  pub before : time ≤ r
  pub is-quiet : quiet T jobs runs time ≡ true
  pub since : (s : ℕ) → time < s → s ≤ r → quiet T jobs runs s ≡ false

-- where two tests do not both hold and the first does, the second fails
both-fails : (p q : Bool) → both p q ≡ false → p ≡ true → q ≡ false
both-fails true q e t = e
both-fails false q e t = true-false t refl

module _ (T : ℕ) (jobs : Jobs) (runs : Schedule) where
  -- at a time that is not quiet a job is left over
  pub busy-has : (u : ℕ) → quiet T jobs runs u ≡ false → LeftOver T jobs runs u
  unfolding quiet
  busy-has u e =
      let some-task = any-finds _ jobs.tasks (not-false _ e) in
      let i = some-task.0 in
      let tests = both_true (leb (jobs.period i) T) (any_to (left_over jobs runs u i) u) some-task.2 in
      let some-job = any-finds _ u tests.1 in
      let j = some-job.0 in
      let over = both_true (ltb (jobs.release i j) u) (ltb (done runs i j u) (jobs.need i j)) some-job.2 in
      record {
        task = i;
        job = j;
        among = some-task.1;
        short = leb-true _ _ tests.0;
        released = ltb-true _ _ over.0;
        unfinished = ltb-true _ _ over.1;
      }

  -- at a quiet time every job of a short task that was released before is done
  pub quiet-done : Apart jobs → OnlyPending jobs runs → (u : ℕ) → quiet T jobs runs u ≡ true
      → (i j : ℕ) → i < jobs.tasks → jobs.period i ≤ T → jobs.release i j < u → done runs i j u ≡ jobs.need i j
  unfolding quiet
  quiet-done apart only u e i j b short l =
      let none = both-fails _ _ (any-fails _ jobs.tasks i (not-true _ e) b) (le-leb _ _ short) in
      let over = both-fails _ _ (any-fails (left_over jobs runs u i) u j none (omega (arith, no-sooner jobs apart i b j))) (lt-ltb _ _ l) in
      omega (arith, ltb-false (done runs i j u) (jobs.need i j) over, done-most jobs runs only i j u)

  -- there is a last quiet time up to r, since 0 is one
  pub last-quiet : (r : ℕ) → LastQuiet T jobs runs r
  last-quiet zero =
      record {
        time = 0;
        before = omega arith;
        is-quiet = by_bool (quiet T jobs runs 0) (λ e. e) (λ e. absurd (omega (arith, (busy-has 0 e).released)));
        since = λ s l m. absurd (omega arith);
      }
  last-quiet (suc r) =
      by_bool (quiet T jobs runs (suc r))
      (λ e. record { time = suc r; before = omega arith; is-quiet = e; since = λ s l m. absurd (omega arith) })
      (λ e. let last = last-quiet r in
      record {
        time = last.time;
        before = omega (arith, last.before);
        is-quiet = last.is-quiet;
        since = λ s l m. by_le s r (λ h. last.since s l h) (λ h. let z : s ≡ suc r = omega arith in rw z e);
      })
