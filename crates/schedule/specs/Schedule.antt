-- Which jobs run in a tick, how far each has come, and what it is to meet a deadline.
-- Assumes nothing.
use Rattle.std.specs.Prelude.{ℕ, suc, ◌≤◌, ◌<◌, Bool, true, ◌≡◌}
use Rattle.ground.specs.Choice.{bit}
use Rattle.ground.specs.Folds.{count_to}
use Rattle.ground.specs.Total.{total}
use Rattle.schedule.specs.Jobs.{Jobs, deadline}

-- whether job j of task i runs in tick t: `runs t i j`
abbrev pub Schedule : Type 0
Schedule = ℕ → ℕ → ℕ → Bool

-- the work done on job j of task i before tick t: the ticks in which it ran
unfoldable pub done : Schedule → ℕ → ℕ → ℕ → ℕ
done runs i j t = count_to (λ tick. runs tick i j) t

-- released by tick t, and still in need of work
pub record Pending (jobs : Jobs) (runs : Schedule) (t i j : ℕ) : Type 0 where
  pub released : jobs.release i j ≤ t
  pub unfinished : done runs i j t < jobs.need i j

-- what runs is a released job of a task
abbrev pub OnlyReleased : Jobs → Schedule → Type 0
OnlyReleased jobs runs = (t i j : ℕ) → runs t i j ≡ true → (i < jobs.tasks) × (jobs.release i j ≤ t)

-- what runs is a pending job of a task
abbrev pub OnlyPending : Jobs → Schedule → Type 0
OnlyPending jobs runs = (t i j : ℕ) → runs t i j ≡ true → (i < jobs.tasks) × Pending jobs runs t i j

-- how many jobs run in tick t: job j of a task is released at tick j or later, so jobs 0 to t are all that can
abbrev pub running : Jobs → Schedule → ℕ → ℕ
running jobs runs t = total jobs.tasks (suc t) (λ i j. bit (runs t i j))

-- a job runs on one processor at a time, so that on m processors at most m jobs run in a tick
abbrev pub AtMost : ℕ → Jobs → Schedule → Type 0
AtMost m jobs runs = (t : ℕ) → running jobs runs t ≤ m

-- by its deadline a job has run for as many ticks as it needs
abbrev pub MeetsDeadline : Jobs → Schedule → ℕ → ℕ → Type 0
MeetsDeadline jobs runs i j = jobs.need i j ≤ done runs i j (deadline jobs i j)

-- each job of each task has
abbrev pub MeetsDeadlines : Jobs → Schedule → Type 0
MeetsDeadlines jobs runs = (i : ℕ) → i < jobs.tasks → (j : ℕ) → MeetsDeadline jobs runs i j
