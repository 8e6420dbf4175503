-- Jobs that are run under a plan.
-- Assumes nothing.
use Rattle.std.specs.Prelude.{ℕ, Bool, List, Ok}
use Rattle.kinds.specs.declared.Task.{Task}
use Rattle.kinds.specs.declared.Settings.{Settings}
use Rattle.outcome.specs.Plan.{outcome, Meets}
use Rattle.schedule.specs.Jobs.{Jobs}
use Rattle.schedule.specs.Schedule.{Schedule}
use Rattle.met.specs.Follows.{Follows}
use Rattle.met.specs.Kernel.{Kernel}

-- there is a table for which one of the finders accepted a plan, the jobs follow the plan, and a kernel of its policy runs them
pub record UnderPlan (jobs : Jobs) (runs : Schedule) : Type 0 where
  pub serves : Bool
  pub settings : Settings
  pub rows : List Task
  pub n : ℕ
  pub step : ℕ
  pub old_periods : List ℕ
  pub old_processors : List ℕ
  pub periods : List ℕ
  pub processors : List ℕ
  pub plan : Meets (outcome serves settings rows n old_periods old_processors) (Ok step) periods processors
  pub follows : Follows settings rows n periods jobs
  pub kernel : Kernel settings rows n step processors jobs runs
