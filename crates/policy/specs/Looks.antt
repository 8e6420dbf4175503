-- Document 01, "Looks of the quick finder": the count that an answer calls for.
-- Assumes nothing.
use Rattle.ground.specs.Least.{Step}
use Rattle.std.specs.Prelude.{ℕ, zero, suc, ◌+◌, Bool, not, List, ltb, eqb, Some, None}
use Rattle.ground.specs.Choice.{both}
use Rattle.ground.specs.Folds.{any_to, count_to}
use Rattle.kinds.specs.declared.Task.{Task}
use Rattle.kinds.specs.Task.{at}
use Rattle.share.specs.Share.{saturation_at}

-- the saturation step of task i is no earlier task's
unfoldable pub is_new : (ℕ → ℕ) → ℕ → Bool
is_new saturation i = not (any_to (λ j. eqb (saturation j) (saturation i)) i)

-- it is positive, and no earlier task's
abbrev pub counts : (ℕ → ℕ) → ℕ → Bool
counts saturation i = both (ltb 0 (saturation i)) (is_new saturation i)

-- the number of distinct positive saturation steps, of n tasks
unfoldable pub distinct : (ℕ → ℕ) → ℕ → ℕ
distinct saturation n = count_to (counts saturation) n

-- the number of those below k
unfoldable pub distinct_below : (ℕ → ℕ) → ℕ → ℕ → ℕ
distinct_below saturation n k = count_to (λ i. both (counts saturation i) (ltb (saturation i) k)) n

-- "1 when the answer is step 0; for an answer k > 0, 2 plus the number of distinct positive saturation steps below k; when refused by 7, 1
-- plus the number of distinct positive saturation steps"
abbrev pub looks_for : (ℕ → ℕ) → ℕ → Step → ℕ
looks_for saturation n (Some zero) = 1
looks_for saturation n (Some (suc k)) = 2 + distinct_below saturation n (suc k)
looks_for saturation n None = 1 + distinct saturation n

unfoldable pub looks_of : List Task → ℕ → Step → ℕ
looks_of rows n step = looks_for (λ i. saturation_at (at rows i)) n step
