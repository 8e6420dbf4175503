-- A fluid kernel meets every deadline, where the loads cover the needs; and they cover them too where the ticks come in parts.
-- Assumes nothing.
use Rattle.ground.proofs.Kit.{ℕ, ◌*◌, ◌/◌, ◌≤◌, mul-le-mul_right, arith}
use native.Mathlib.Nat.{le-div_iff_mul-le}
use Rattle.schedule.specs.Jobs.{Jobs, Covers}
use Rattle.schedule.specs.Schedule.{Schedule, MeetsDeadlines}
use Rattle.fluid.specs.Fluid.{Fluid}
use Rattle.fluid.specs.Parts.{in_parts}

-- each job is given what covers its need
pub fluid-meets : (m S : ℕ) (load : ℕ → ℕ) (jobs : Jobs) (runs : Schedule) → 1 ≤ S → Covers load S jobs → Fluid m S load jobs runs → MeetsDeadlines jobs runs
fluid-meets m S load jobs runs unit covers fluid i l j =
    let enough : jobs.need i j ≤ load i * jobs.period i / S = (le-div_iff_mul-le unit).1 (covers i l j) in
    omega (arith, enough, fluid.given i l j)

-- loads that cover the needs cover them in parts
pub covers-parts : (S : ℕ) (load : ℕ → ℕ) (jobs : Jobs) → Covers load S jobs → Covers load S (in_parts S jobs)
covers-parts S load jobs covers i l j = omega (arith, mul-le-mul_right S (covers i l j))
