-- What the walks of the planner hand each other: no more than keeps them in bounds.
-- Assumes nothing.
use Rattle.std.specs.Prelude.{ℕ, ◌+◌, ◌≤◌, ◌<◌, List, get_or, Option, Some, None}
use Rattle.kinds.specs.Limits.{scale}

-- one of m processors, counted from 0, that has room for a load, where one is found
abbrev pub WithRoom : List ℕ → ℕ → ℕ → Option ℕ → Type 0
WithRoom held load m (Some j) = (j < m) × (get_or held j 0 + load ≤ scale)
WithRoom held load m None = Unit {0}
