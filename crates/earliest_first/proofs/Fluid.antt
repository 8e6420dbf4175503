-- The fluid work: a job that gets its task's load at each tick from its release to its deadline. In a tick a task has one such job at most, so
-- that all the jobs together get at most the sum of the loads.
-- Assumes nothing.
use Rattle.ground.proofs.Kit.{ℕ, zero, suc, ◌+◌, ◌-◌, ◌*◌, ◌≤◌, ◌<◌, min, Bool, true, false, ◌≡◌, mul-le-mul_left, arith, leb}
use Rattle.ground.specs.Choice.{pick}
use Rattle.ground.specs.Folds.{sum_to}
use Rattle.ground.specs.Total.{total}
use Rattle.ground.proofs.Cases.{by_le}
use Rattle.ground.proofs.Folds.{sum-le}
use Rattle.ground.proofs.Sums.{sum-plus}
use Rattle.schedule.specs.Jobs.{Jobs, deadline, Apart}
use Rattle.schedule.proofs.Releases.{in-turn}
use Rattle.earliest_first.proofs.Due.{due_sum, if_due}

-- the ticks before t that lie between a job's release and its deadline
abbrev pub passed : Jobs → ℕ → ℕ → ℕ → ℕ
passed jobs t i j = min (t - jobs.release i j) (jobs.period i)

-- what a job needs and its fluid work before tick t, both times S. With what is paid (`Work`) it says, without a difference, whether what is left of
-- the need is more than what is left of the fluid work: need + fluid work so far against whole fluid work + work done so far
abbrev pub owed : Jobs → (ℕ → ℕ) → ℕ → ℕ → ℕ → ℕ → ℕ
owed jobs load S t i j = S * jobs.need i j + load i * passed jobs t i j

-- the number of one job, due or not, stays where the ticks passed do
stays : (b : Bool) (c load p q : ℕ) → p ≡ q → pick b (c + load * p) 0 ≤ pick b (c + load * q) 0
stays b c load p q e = rw e (omega arith)

-- and rises by the load at most where one more has passed
rises : (b : Bool) (c load p q : ℕ) → p ≤ q + 1 → pick b (c + load * p) 0 ≤ pick b (c + load * q) 0 + load
rises true c load p q h = omega (arith, mul-le-mul_left load h)
rises false c load p q h = omega arith

module _ (jobs : Jobs) (apart : Apart jobs) (load : ℕ → ℕ) (S d t : ℕ) where
  -- the numbers of a task's jobs before this tick and before the next
  one-job : (i : ℕ) → i < jobs.tasks → (k : ℕ)
      → sum_to (if_due jobs d (owed jobs load S (suc t)) i) k ≤ sum_to (if_due jobs d (owed jobs load S t) i) k + load i
  unfolding sum_to
  one-job i l zero = omega arith
  one-job i l (suc k) =
      let mask : ℕ → Bool = λ j. leb (deadline jobs i j) d in
      let need : ℕ → ℕ = λ j. S * jobs.need i j in
      by_le (jobs.release i k) t
      (λ begun. omega (
        arith,
        sum-le (if_due jobs d (owed jobs load S (suc t)) i) (if_due jobs d (owed jobs load S t) i) k
            (λ j m. stays (mask j) (need j) (load i) (passed jobs (suc t) i j) (passed jobs t i j) (omega (arith, in-turn jobs apart i l j k m))),
        rises (mask k) (need k) (load i) (passed jobs (suc t) i k) (passed jobs t i k) (omega arith),
      ))
      (λ later. omega (
        arith,
        one-job i l k,
        stays (mask k) (need k) (load i) (passed jobs (suc t) i k) (passed jobs t i k) (omega arith),
      ))

  -- so in a tick what all the due jobs are owed rises by the sum of the loads at most
  pub fluid-rises : due_sum jobs d (owed jobs load S (suc t)) ≤ due_sum jobs d (owed jobs load S t) + sum_to load jobs.tasks
  unfolding due_sum total
  fluid-rises =
      let now : ℕ → ℕ = λ i. sum_to (if_due jobs d (owed jobs load S t) i) (suc d) in
      let next : ℕ → ℕ = λ i. sum_to (if_due jobs d (owed jobs load S (suc t)) i) (suc d) in
      let n = jobs.tasks in
      omega (
        arith,
        sum-le next (λ i. now i + load i) n (λ i l. one-job i l (suc d)),
        sum-plus now load n,
      )
