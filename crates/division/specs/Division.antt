-- The division of a stretch: from the step p on each share falls by its slope, as far as the next saturation step.
-- Assumes nothing.
use Rattle.std.specs.Prelude.{ℕ, zero, suc, ◌+◌, ◌-◌, max, min, ltb}
use Rattle.ground.specs.Choice.{pick}
use Rattle.ground.specs.Folds.{sum_to, AddedUp}
use Rattle.ground.specs.Rounding.{ceil_div}
use Rattle.kinds.specs.Limits.{greatest_elasticity}
use Rattle.policy.specs.declared.Weights.{Weights}
use Rattle.policy.specs.Sides.{left_of}
use Rattle.springs.specs.declared.Spring.{Spring}
use Rattle.springs.specs.Spring.{share_on, saturation_on, shares_on}

-- by how much the share of a spring falls at each step after p, before the next saturation step
unfoldable pub slope : Spring → ℕ → ℕ
slope s p = pick (ltb p (saturation_on s)) s.elasticity 0

abbrev pub slope_sum : (ℕ → Spring) → ℕ → ℕ → ℕ
slope_sum springs n p = sum_to (λ i. slope (springs i) p) n

-- the same as a walk works it out
abbrev pub FallIs : (ℕ → Spring) → ℕ → ℕ → ℕ → Type 0
FallIs springs n p r = AddedUp (λ i. slope (springs i) p) greatest_elasticity n r

-- the steps that are needed after p if the task with the share x and the slope d has the max; the sum falls by `fall`
unfoldable pub need : Weights → ℕ → ℕ → ℕ → ℕ → ℕ
need w sum fall x d = ceil_div (left_of w sum x - w.r) (left_of w fall d)

-- the greatest of the needs: over no task (share 0, slope 0), and over each of the first n
unfoldable pub need_to : Weights → (ℕ → Spring) → ℕ → ℕ → ℕ → ℕ → ℕ
need_to w springs p sum fall zero = need w sum fall 0 0
need_to w springs p sum fall (suc n) =
    max (need_to w springs p sum fall n) (need w sum fall (share_on (springs n) p) (slope (springs n) p))

-- the least passing step of the stretch from p to q
unfoldable pub divided : Weights → (ℕ → Spring) → ℕ → ℕ → ℕ → ℕ
divided w springs n p q = min q (p + need_to w springs p (sum_to (shares_on springs p) n) (slope_sum springs n p) n)
