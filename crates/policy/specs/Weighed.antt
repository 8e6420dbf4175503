-- The test of a policy that is weighed, on any loads and at a step of springs.
-- Assumes nothing.
use Rattle.std.specs.Prelude.{ℕ, Bool, leb}
use Rattle.ground.specs.Folds.{sum_to, max_to}
use Rattle.policy.specs.declared.Weights.{Weights}
use Rattle.policy.specs.Sides.{left_of}
use Rattle.springs.specs.declared.Spring.{Spring}
use Rattle.springs.specs.Spring.{shares_on, charges_on}

-- a test in the one form, over any loads
unfoldable pub weighed : Weights → (ℕ → ℕ) → ℕ → Bool
weighed w load n = leb (left_of w (sum_to load n) (max_to load n)) w.r

-- at step k on the shares of the springs
abbrev pub weighed_at : Weights → (ℕ → Spring) → ℕ → ℕ → Bool
weighed_at w springs n k = weighed w (shares_on springs k) n

-- and on their charges
abbrev pub charged_at : Weights → ℕ → (ℕ → Spring) → ℕ → ℕ → Bool
charged_at w q springs n k = weighed w (charges_on q springs k) n
