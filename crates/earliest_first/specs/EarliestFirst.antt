-- Earliest deadline first on m processors, and the test for it.
-- Assumes nothing.
use Rattle.std.specs.Prelude.{ℕ, suc, ◌+◌, ◌-◌, ◌*◌, ◌≤◌, ◌<◌, false, ◌≡◌, leb}
use Rattle.ground.specs.Choice.{bit, both}
use Rattle.ground.specs.Folds.{sum_to, max_to}
use Rattle.ground.specs.Total.{total}
use Rattle.schedule.specs.Jobs.{Jobs, deadline}
use Rattle.schedule.specs.Schedule.{Schedule, done, Pending, OnlyPending, AtMost}

-- each earlier job of its task is done before tick t
abbrev pub IsNext : Jobs → Schedule → ℕ → ℕ → ℕ → Type 0
IsNext jobs runs t i j = (b : ℕ) → b < j → done runs i b t ≡ jobs.need i b

-- how many jobs run in tick t whose deadlines are no later than d
abbrev pub running_by : Jobs → Schedule → ℕ → ℕ → ℕ
running_by jobs runs t d = total jobs.tasks (suc t) (λ i j. bit (both (runs t i j) (leb (deadline jobs i j) d)))

-- the kernel: between equal deadlines it may choose as it likes, a job may move between processors, and a job whose task has an earlier one that is not
-- done may be held back or not
pub record EarliestFirst (m : ℕ) (jobs : Jobs) (runs : Schedule) : Type 0 where
  pub only-pending : OnlyPending jobs runs
  pub at_most : AtMost m jobs runs
  -- the next job of a task is left waiting only where m jobs run whose deadlines are no later than its own
  pub earliest : (t i j : ℕ) → i < jobs.tasks → Pending jobs runs t i j → IsNext jobs runs t i j → runs t i j ≡ false
      → m ≤ running_by jobs runs t (deadline jobs i j)

-- the test of Goossens, Funk and Baruah for n tasks, over loads in parts of which S make one processor
abbrev pub PassesGlobalEdf : ℕ → ℕ → (ℕ → ℕ) → ℕ → Type 0
PassesGlobalEdf m S load n = sum_to load n + (m - 1) * max_to load n ≤ m * S
