-- Passing, and the least passing step of demand 2.
-- Assumes nothing.
use Rattle.std.specs.Prelude.{ℕ, Bool, false, leb}
use Rattle.ground.specs.Folds.{sum_to, max_to}
use Rattle.ground.specs.Least.{least_up_to, Step}
use Rattle.kinds.specs.declared.Policy.{Policy}
use Rattle.kinds.specs.declared.Policy.TheVariants.{Pooled, GlobalEdf, GlobalRm, FirstFit, OneCoreRm, Further}
use Rattle.fit.specs.Fit.{fits}
use Rattle.policy.specs.Sides.{left_side, right_side}

-- the left side of a policy's test is at most the right
abbrev pub holds : Policy → ℕ → ℕ → ℕ → ℕ → Bool
holds p m n sum max = leb (left_side p m sum max) (right_side p m n max)

-- n tasks with these loads pass the test of a policy on m processors
unfoldable pub passes : Policy → ℕ → (ℕ → ℕ) → ℕ → Bool
passes Pooled m load n = holds Pooled m n (sum_to load n) (max_to load n)
passes GlobalEdf m load n = holds GlobalEdf m n (sum_to load n) (max_to load n)
passes GlobalRm m load n = holds GlobalRm m n (sum_to load n) (max_to load n)
passes FirstFit m load n = fits m load n
passes OneCoreRm m load n = holds OneCoreRm m n (sum_to load n) (max_to load n)
passes (Further q) m load n = false

-- the test of demand 2: n tasks pass at step k, with loads by step and task
abbrev pub passes_at : Policy → ℕ → (ℕ → ℕ → ℕ) → ℕ → ℕ → Bool
passes_at p m load n k = passes p m (load k) n

-- "the smallest whole compression step from 0 to full compression", K, "at which the policy's test holds"
unfoldable pub least_step : Policy → ℕ → (ℕ → ℕ → ℕ) → ℕ → ℕ → Step
least_step p m load n K = least_up_to (passes_at p m load n) K
