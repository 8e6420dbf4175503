-- Fluid on m processors: loads that can be shared, and a kernel that gives each job its task's load of a processor.
-- Assumes nothing.
use Rattle.std.specs.Prelude.{ℕ, ◌*◌, ◌/◌, ◌≤◌, ◌<◌}
use Rattle.ground.specs.Folds.{sum_to}
use Rattle.schedule.specs.Jobs.{Jobs, deadline}
use Rattle.schedule.specs.Schedule.{Schedule, done, OnlyReleased, AtMost}

-- loads that m processors can share, S parts to a processor: none is more than a processor, and all together are no more than m
pub record Shareable (m S tasks : ℕ) (load : ℕ → ℕ) : Type 0 where
  pub some : 1 ≤ S
  pub one : (i : ℕ) → i < tasks → load i ≤ S
  pub all : sum_to load tasks ≤ m * S

-- the kernel: by its deadline a job has been given load × period / S ticks, rounded down, where S parts make one processor. It may be given more than
-- it needs, and how the processors are shared out so is the kernel's own affair
pub record Fluid (m S : ℕ) (load : ℕ → ℕ) (jobs : Jobs) (runs : Schedule) : Type 0 where
  pub only-released : OnlyReleased jobs runs
  pub at_most : AtMost m jobs runs
  pub given : (i : ℕ) → i < jobs.tasks → (j : ℕ) → load i * jobs.period i / S ≤ done runs i j (deadline jobs i j)
