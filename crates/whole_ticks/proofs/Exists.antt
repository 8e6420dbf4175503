-- Where m processors can share the loads, and all tasks release their jobs in step from one tick on, there is a fluid kernel in whole ticks.
-- Assumes nothing.
use Rattle.ground.proofs.Kit.{ℕ, ◌≤◌, ◌<◌}
use Rattle.ground.specs.Folds.{prod_to}
use Rattle.schedule.specs.Periodic.{periodic}
use Rattle.schedule.specs.Schedule.{Schedule}
use Rattle.fluid.specs.Fluid.{Shareable, Fluid}
use Rattle.whole_ticks.specs.Round.{round_parts, in_rounds}
use Rattle.whole_ticks.proofs.Filled.{filled}
use Rattle.whole_ticks.proofs.Round.{round_is, round-enough}
use Rattle.whole_ticks.proofs.Rounds.{rounds-whole}

-- it repeats one round, in which each job has the whole ticks that it can be given in parts
pub whole-exists : (m S tasks from : ℕ) (period load : ℕ → ℕ) (need : ℕ → ℕ → ℕ) → ((i : ℕ) → i < tasks → 1 ≤ period i) → Shareable m S tasks load
    → (runs : Schedule) × Fluid m S load (periodic tasks period (λ i. from) need) runs
whole-exists m S tasks from period load need some share =
    let round = prod_to period tasks in
    let is = round_is tasks period some in
    let all = filled (round_parts round m S tasks period load) (round-enough round m S tasks period load is share) in
    (in_rounds round tasks period from all.0, rounds-whole round m S tasks from period load need is share all.0 all.1 all.2)
