-- The start of a clock: what it hands back, for every list of periods.
-- Assumes nothing.
use Rattle.std.specs.Prelude.{ℕ, Bool, not, List, length, replicate, nat_le, nat_lt, slice_index, Result, Ok, Err}
use Rattle.ground.specs.Choice.{both}
use Rattle.ground.specs.First.{first_below}
use Rattle.ground.specs.Laid.{padded}
use Rattle.kinds.specs.declared.Refusal.{Refusal}
use Rattle.kinds.specs.declared.Refusal.TheVariants.{TooManyTasks, BadPeriod}
use Rattle.kinds.specs.Answer.{Handed, accepted, refused, check}
use Rattle.kinds.specs.Limits.{longest_period, most_tasks}
use Rattle.clock.specs.declared.Clock.{Clock}

-- the period of task i
abbrev pub every : List ℕ → ℕ → ℕ
every periods i = slice_index periods i

-- a period that a clock takes; the others are "0 or above 1,000,000,000"
abbrev pub is_period : ℕ → Bool
is_period ticks = both (nat_le 1 ticks) (nat_le ticks longest_period)

-- the first period that it does not take; how many there are where it takes each
unfoldable pub first_bad : List ℕ → ℕ
first_bad periods = first_below (λ i. not (is_period (every periods i))) (length periods)

-- a clock without tasks, all zeros
abbrev pub no_clock : Clock
no_clock = record { periods = replicate most_tasks 0; next = replicate most_tasks 0; n = 0 }

-- Ask 12: "each task's next release is the starting tick"; the unused places are zeros
unfoldable pub clock_from : List ℕ → ℕ → Clock
clock_from periods tick = record {
  periods = padded 0 most_tasks periods;
  next = padded 0 most_tasks (replicate (length periods) tick);
  n = length periods;
}

-- Ask 12: more than 32 tasks "are refused by 3; at the start then the first period that is 0 or above 1,000,000,000 by 17 at its task"
unfoldable pub started : List ℕ → ℕ → Handed Clock
started periods tick =
    check (nat_lt most_tasks (length periods)) (refused no_clock (TooManyTasks (length periods)))
    (check (nat_lt (first_bad periods) (length periods)) (refused no_clock (BadPeriod (first_bad periods)))
    (accepted (clock_from periods tick)))

-- a start in document 01's numbers, with the clock of zeros beside a refusal
abbrev pub handed_start : Result Clock Refusal → Handed Clock
handed_start (Ok c) = accepted c
handed_start (Err r) = refused no_clock r
