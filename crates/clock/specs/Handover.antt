-- What the functions hand each other.
-- Assumes nothing.
use Rattle.std.specs.Prelude.{ℕ, suc, List, Option, None, Some, slice_index, length}
use Rattle.clock.specs.Ticks.{late, latest}

-- how late a task is that is so many ticks behind, or not due
abbrev pub late_of : Option ℕ → ℕ
late_of None = 0
late_of (Some ticks) = suc ticks

-- of the tasks with these next releases the one that is most late at the present tick
abbrev pub latest_of : ℕ → List ℕ → List ℕ
latest_of present next = latest (λ i. late present (slice_index next i)) (length next)
