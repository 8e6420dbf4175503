-- What the functions of the division hand back.
-- Assumes nothing.
use Rattle.std.specs.Prelude.{ℕ, ◌-◌, ◌≤◌, ◌≡◌}
use Rattle.policy.specs.declared.Weights.{Weights}
use Rattle.policy.specs.Sides.{left_of}
use Rattle.division.specs.declared.Line.{Line}

-- the line of the task with the share x and the slope d
pub record LineIs (w : Weights) (sum fall x d : ℕ) (r : Line) : Type 0 where
  pub over-is : r.over ≡ left_of w sum x - w.r
  pub by-is : r.by ≡ left_of w fall d

-- the steps that are needed
pub record NeedIs (steps r : ℕ) : Type 0 where
  pub is : r ≡ steps
  pub most : r ≤ 1000000000
