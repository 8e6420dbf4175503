-- McNaughton's wrap: m processors of S parts each, end to end, are one line of m × S parts. The loads are laid along it one after the other, and what
-- passes the end of a processor goes on at the front of the next.
-- Assumes nothing.
use Rattle.std.specs.Prelude.{ℕ, ◌+◌, ◌*◌, ◌/◌, ◌%◌, Bool, leb, ltb}
use Rattle.ground.specs.Choice.{both}
use Rattle.ground.specs.Folds.{sum_to, any_to}
use Rattle.schedule.specs.Jobs.{Jobs, deadline}
use Rattle.schedule.specs.Schedule.{Schedule}

-- a place x of the line lies in the stretch from a to b
abbrev pub is_in : ℕ → ℕ → ℕ → Bool
is_in a b x = both (leb a x) (ltb x b)

-- part q of processor p is laid under the load of task i
abbrev pub is_under : (ℕ → ℕ) → ℕ → ℕ → ℕ → ℕ → Bool
is_under load S q i p = is_in (sum_to load i) (sum_to load i + load i) (p * S + q)

-- task i has part q of one of m processors
abbrev pub has_part : (ℕ → ℕ) → ℕ → ℕ → ℕ → ℕ → Bool
has_part load S m i q = any_to (is_under load S q i) m

-- the schedule, in parts: every tick is shared out in the same way, and what a task has goes to its job that is released and not yet due
unfoldable pub wrapped : ℕ → ℕ → (ℕ → ℕ) → Jobs → Schedule
wrapped m S load jobs u i j =
    both (ltb i jobs.tasks) (both (is_in (jobs.release i j) (deadline jobs i j) (u / S)) (has_part load S m i (u % S)))
