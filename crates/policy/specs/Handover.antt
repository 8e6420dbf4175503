-- What the functions hand each other.
-- Assumes nothing.
use Rattle.std.specs.Prelude.{ℕ, ◌*◌, ◌≤◌, ◌≡◌}
use Rattle.ground.specs.Folds.{AddedUp, max_to}
use Rattle.kinds.specs.Limits.{scale, most_processors}
use Rattle.policy.specs.declared.Weights.{Weights}

-- weights that are small enough that no side overflows
pub record Light (w : Weights) : Type 0 where
  pub b-most : w.b ≤ most_processors
  pub r-most : w.r ≤ scale * most_processors

-- a side, with the bound that its callers need
pub record SideIs (side r : ℕ) : Type 0 where
  pub is : r ≡ side
  pub most : r ≤ 1000000000

-- the sum and the max of the loads of n tasks
pub record TotalIs (load : ℕ → ℕ) (n sum max : ℕ) : Type 0 where
  pub added : AddedUp load scale n sum
  pub max-is : max ≡ max_to load n
  pub max-most : max ≤ scale
