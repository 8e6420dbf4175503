-- A sum over pairs of numbers.
-- Assumes nothing.
use Rattle.std.specs.Prelude.{ℕ}
use Rattle.ground.specs.Folds.{sum_to}

-- over those whose first is below `rows` and whose second is below `columns`
unfoldable pub total : ℕ → ℕ → (ℕ → ℕ → ℕ) → ℕ
total rows columns f = sum_to (λ i. sum_to (f i) columns) rows
