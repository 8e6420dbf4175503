-- The tick stands still: the releases that wait, and the calls within which a task is handed back.
-- Assumes nothing.
use Rattle.std.specs.Prelude.{ℕ, zero, suc, ◌-◌, ◌/◌, ◌≤◌, ◌<◌, [], ◌∷◌, ◌≡◌, leb, length}
use Rattle.ground.specs.Choice.{pick}
use Rattle.ground.specs.Folds.{sum_to}
use Rattle.kinds.specs.Answer.{accepted}
use Rattle.kinds.specs.Limits.{longest_period, most_tasks}
use Rattle.clock.specs.declared.Clock.{Clock}
use Rattle.clock.specs.Ticks.{turn}
use Rattle.clock.specs.Call.{next_of, period_of, late_at, released, after_call}

-- how many of the releases first, first + period, first + 2 × period, … come at or before t
unfoldable pub releases_by : ℕ → ℕ → ℕ → ℕ
releases_by first period t = pick (leb first t) (suc ((t - first) / period)) 0

-- "releases not yet handed back, over all tasks, that come at or before its own", for task j of n
unfoldable pub waiting : ℕ → (ℕ → ℕ) → (ℕ → ℕ) → ℕ → ℕ
waiting n period next j = sum_to (λ i. releases_by (next i) (period i) (next j)) n

-- a clock of at most 32 tasks, on 32 bits, whose periods are 1 to 1,000,000,000
pub record Regular (c : Clock) : Type 0 where
  pub few : c.n ≤ most_tasks
  pub room : c.n ≤ length c.next
  pub narrow : (i : ℕ) → i < c.n → next_of c i < turn
  pub some : (i : ℕ) → i < c.n → 1 ≤ period_of c i
  pub most : (i : ℕ) → i < c.n → period_of c i ≤ longest_period

-- the same count over 32-bit differences, without unbroken time: the releases not yet handed back, over all tasks, that are at least
-- `lateness` late at the present tick. The first of task i is `late_at c present i` late, and each further one a period less.
unfoldable pub waiting_at : Clock → ℕ → ℕ → ℕ
waiting_at c present lateness = sum_to (λ i. releases_by lateness (period_of c i) (late_at c present i)) c.n

-- the clock after so many calls with the tick standing still
unfoldable pub after_calls : ℕ → Clock → ℕ → Clock
after_calls zero c present = c
after_calls (suc calls) c present = after_calls calls (after_call c present) present

-- one of the first `most` calls with the tick standing still hands back task j
pub record HandedWithin (most : ℕ) (c : Clock) (present j : ℕ) : Type 0 where
  pub calls : ℕ
  pub soon : calls < most
  pub handed : released (after_calls calls c present) present ≡ accepted (j ∷ [])
