-- A clock from a plan.
-- Assumes nothing.
use Rattle.std.specs.Prelude.{ℕ, List, ◌≡◌, eqb, Result, Ok, Err}
use Rattle.ground.specs.Choice.{pick}
use Rattle.kinds.specs.declared.Task.{Task}
use Rattle.kinds.specs.declared.Settings.{Settings}
use Rattle.kinds.specs.declared.Refusal.{Refusal}
use Rattle.kinds.specs.Answer.{Handed, Answer}
use Rattle.outcome.specs.Plan.{periods_under, Outcome, Meets}
use Rattle.clock.specs.declared.Clock.{Clock}
use Rattle.clock.specs.Start.{no_clock, clock_from}
use Rattle.planned_clock.specs.declared.Planned.{Planned}

-- the clock of an accepted plan's periods, each with the starting tick as its next release; all zeros where there is no plan
abbrev pub clock_of : Handed ℕ → Settings → List Task → ℕ → ℕ → Clock
clock_of h s rows n tick = pick (eqb h.number 0) (clock_from (periods_under s rows n h.value) tick) no_clock

-- the plan that is answered, and the clock: of zeros where there is no plan
abbrev pub plan_in : Result Planned Refusal → Answer
plan_in (Ok p) = Ok p.step
plan_in (Err r) = Err r

abbrev pub clock_in : Result Planned Refusal → Clock
clock_in (Ok p) = p.clock
clock_in (Err r) = no_clock

-- the plan and both outputs are those of the outcome, and the clock is that of the plan
pub record PlanIs (o : Outcome) (s : Settings) (rows : List Task) (n tick : ℕ) (r : Result Planned Refusal) (periods processors : List ℕ) : Type 0 where
  pub plans : Meets o (plan_in r) periods processors
  pub starts : clock_in r ≡ clock_of o.handed s rows n tick
