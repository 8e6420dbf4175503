-- The rules for the first n of some tasks that need several cores: when they pass, and the least step at which they do.
-- Assumes nothing.
use Rattle.std.specs.Prelude.{ℕ, Bool, not, List, leb}
use Rattle.ground.specs.First.{first_below}
use Rattle.ground.specs.Folds.{sum_to, max_to, list_to}
use Rattle.ground.specs.Least.{least_up_to, Step}
use Rattle.wide_task.specs.declared.WideTask.{WideTask}
use Rattle.wide_task.specs.WideTask.{at, is_good}
use Rattle.wide_task.specs.Cores.{saturation_at, period_at, cores_at}

-- K: the greatest saturation step, 0 if there is none
unfoldable pub full_compression : List WideTask → ℕ → ℕ
full_compression rows n = max_to (λ i. saturation_at (at rows i)) n

-- the first record that is not good; n where each is
unfoldable pub first_bad : List WideTask → ℕ → ℕ
first_bad rows n = first_below (λ i. not (is_good (at rows i))) n

-- the cores that all need at step k
abbrev pub cores_sum : List WideTask → ℕ → ℕ → ℕ
cores_sum rows n k = sum_to (λ i. cores_at (at rows i) k) n

-- Ask 4: "A table of such tasks passes at a step when the cores add up to at most m"
unfoldable pub passes_at : ℕ → List WideTask → ℕ → ℕ → Bool
passes_at m rows n k = leb (cores_sum rows n k) m

-- Ask 4: "the answer is the least passing step", from 0 to K
unfoldable pub least_step : ℕ → List WideTask → ℕ → Step
least_step m rows n = least_up_to (passes_at m rows n) (full_compression rows n)

-- "with each period and core count"
unfoldable pub periods_at : List WideTask → ℕ → ℕ → List ℕ
periods_at rows n k = list_to (λ i. period_at (at rows i) k) n

unfoldable pub core_counts_at : List WideTask → ℕ → ℕ → List ℕ
core_counts_at rows n k = list_to (λ i. cores_at (at rows i) k) n
