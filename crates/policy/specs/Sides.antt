-- Document 01, "The four policies", and Ask 1's: the two sides of the tests that have a formula, as printed and in one form; the margin.
-- Assumes nothing.
use Rattle.std.specs.Prelude.{ℕ, ◌+◌, ◌-◌, ◌*◌, ℤ}
use Rattle.std.proofs.Math.IntN.{sub_ℕ}
use Rattle.ground.specs.Folds.{sum_to, max_to}
use Rattle.kinds.specs.declared.Policy.{Policy}
use Rattle.kinds.specs.declared.Policy.TheVariants.{Pooled, GlobalEdf, GlobalRm, FirstFit, OneCoreRm, Further}
use Rattle.ground.specs.Choice.{pick}
use Rattle.kinds.specs.Limits.{scale}
use Rattle.kinds.specs.Policy.{is_first_fit}
use Rattle.bound.specs.Bound.{bound_of}
use Rattle.policy.specs.declared.Weights.{Weights}

-- the sides as document 01 prints them; a policy that has no formula has no sides, for which 0 stands
abbrev pub left_side : Policy → ℕ → ℕ → ℕ → ℕ
left_side Pooled m sum max = sum
left_side GlobalEdf m sum max = sum + (m - 1) * max
left_side GlobalRm m sum max = 2 * sum + m * max
left_side FirstFit m sum max = 0
left_side OneCoreRm m sum max = sum
left_side (Further q) m sum max = 0

-- the right side of policy 5 depends on how many tasks there are
abbrev pub right_side : Policy → ℕ → ℕ → ℕ → ℕ
right_side Pooled m n max = m * scale
right_side GlobalEdf m n max = m * scale
right_side GlobalRm m n max = m * scale + 2 * max
right_side FirstFit m n max = 0
right_side OneCoreRm m n max = bound_of n
right_side (Further q) m n max = 0

-- "the right side of the test minus the left, as a signed number"
unfoldable pub margin_of : Policy → ℕ → (ℕ → ℕ) → ℕ → ℤ
margin_of p m load n = sub_ℕ (right_side p m n (max_to load n)) (left_side p m (sum_to load n) (max_to load n))

-- the one form of the policies that are weighed: sum + b · max ≤ r
abbrev pub left_of : Weights → ℕ → ℕ → ℕ
left_of w sum max = sum + w.b * max

abbrev pub weights : ℕ → ℕ → Weights
weights b r = record { b = b; r = r }

abbrev pub weights_of : Policy → ℕ → ℕ → Weights
weights_of Pooled m n = weights 0 (m * scale)
weights_of GlobalEdf m n = weights (m - 1) (m * scale)
weights_of GlobalRm m n = weights 0 0
weights_of FirstFit m n = weights 0 0
weights_of OneCoreRm m n = weights 0 (bound_of n)
weights_of (Further q) m n = weights 0 0

-- what the loads of n tasks that pass add up to at most
abbrev pub most_sum : Policy → ℕ → ℕ → ℕ
most_sum p m n = pick (is_first_fit p) (m * scale) (weights_of p m n).r
