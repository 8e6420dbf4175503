-- What the functions hand back, with the bounds that their callers need.
-- Assumes nothing.
use Rattle.std.specs.Prelude.{ℕ, ◌≤◌, ◌≡◌}
use Rattle.rule.specs.Job as job
use Rattle.wide_task.specs.declared.WideTask.{WideTask}
use Rattle.wide_task.specs.Limits.{most_tmins, most_cores}
use Rattle.wide_task.specs.Cores.{cores_at}

-- a saturation step, or the greatest of several
abbrev pub StepIs : ℕ → ℕ → Type 0
StepIs step r = job.StepIs 1 most_tmins step r

-- the cores needed at step k
pub record CoresIs (t : WideTask) (k r : ℕ) : Type 0 where
  pub is : r ≡ cores_at t k
  pub most : r ≤ most_cores
