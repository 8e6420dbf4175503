-- Springs within their limits, springs that are allowed periods, and columns with no number above a bound.
-- Assumes nothing.
use Rattle.std.specs.Prelude.{ℕ, ◌≤◌, ◌<◌, List, ◌≡◌, get_or}
use Rattle.kinds.specs.Limits.{scale, greatest_elasticity, longest_period}
use Rattle.springs.specs.declared.Spring.{Spring}
use Rattle.springs.specs.Spring.{saturation_on, period_for, charge_for}

-- the least share is at most the largest, no number is above a good task's, and the saturation step is that of the shares
pub record Within (s : Spring) : Type 0 where
  pub largest-most : s.largest ≤ scale
  pub least-largest : s.least ≤ s.largest
  pub elasticity-most : s.elasticity ≤ greatest_elasticity
  pub saturated : s.saturation ≡ saturation_on s

-- there is a notch, a shortest period and a share, even the least share allows a period on a notch within the limit, and the largest share is
-- charged whole
pub record Allowed (q : ℕ) (s : Spring) : Type 0 where
  pub within : Within s
  pub notch : 1 ≤ q
  pub ticks : 1 ≤ s.tmin
  pub some : 1 ≤ s.least
  pub most : period_for q s s.least ≤ longest_period
  pub whole : charge_for q s s.largest ≡ s.largest

-- the spring number i of six columns
abbrev pub spring_over : (largest least elasticity saturation cost tmin : List ℕ) → ℕ → Spring
spring_over largest least elasticity saturation cost tmin i =
    record {
      largest = get_or largest i 0;
      least = get_or least i 0;
      elasticity = get_or elasticity i 0;
      saturation = get_or saturation i 0;
      cost = get_or cost i 0;
      tmin = get_or tmin i 0;
    }

-- no number of a column is above a bound
abbrev pub AllAtMost : ℕ → List ℕ → Type 0
AllAtMost most column = (i : ℕ) → get_or column i 0 ≤ most

-- the first n springs are within their limits
abbrev pub AllWithin : (ℕ → Spring) → ℕ → Type 0
AllWithin springs n = (i : ℕ) → i < n → Within (springs i)

-- the first n springs are allowed periods
abbrev pub AllAllowed : ℕ → (ℕ → Spring) → ℕ → Type 0
AllAllowed q springs n = (i : ℕ) → i < n → Allowed q (springs i)
