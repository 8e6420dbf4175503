-- The clock in unbroken time: ticks that are plain numbers and never wrap.
-- Assumes nothing.
use Rattle.std.specs.Prelude.{ℕ, suc, ◌+◌, ◌-◌, ◌%◌, ◌≤◌, ◌<◌, max, List, [], ◌∷◌, eqb, length}
use Rattle.ground.specs.Choice.{pick}
use Rattle.kinds.specs.Limits.{longest_period}
use Rattle.clock.specs.declared.Clock.{Clock}
use Rattle.clock.specs.Ticks.{turn, half_turn, latest}
use Rattle.clock.specs.Start.{every, started}
use Rattle.clock.specs.Call.{after_call}

-- In all that follows t is a tick of unbroken time, period i the period of task i, and next i its next release in unbroken time.

-- how late each task is: 0 where its release is after t, else one more than the ticks since
abbrev pub late_by : (ℕ → ℕ) → ℕ → ℕ → ℕ
late_by next t i = suc t - next i

-- what a clock of unbroken time hands back: of n tasks with a release at or before t the earliest, lowest record on a tie
unfoldable pub earliest : ℕ → (ℕ → ℕ) → ℕ → List ℕ
earliest n next t = latest (late_by next t) n

-- the next releases after task i is handed back
unfoldable pub onward : (ℕ → ℕ) → (ℕ → ℕ) → ℕ → ℕ → ℕ
onward period next i j = pick (eqb i j) (next j + period j) (next j)

-- and after a call
abbrev pub onward_from : (ℕ → ℕ) → (ℕ → ℕ) → List ℕ → ℕ → ℕ
onward_from period next [] = next
onward_from period next (i ∷ rest) = onward period next i

-- A history is the ticks of the calls so far, the latest call's first. The clock was started with some periods at the tick `from`.
module _ (periods : List ℕ) (from : ℕ) where
  -- the clock on 32 bits, as the functions hand it back
  unfoldable pub clock_after : List ℕ → Clock
  clock_after [] = (started periods (from % turn)).value
  clock_after (t ∷ earlier) = after_call (clock_after earlier) (t % turn)

  -- the next releases of the clock of unbroken time
  unfoldable pub next_after : List ℕ → ℕ → ℕ
  next_after [] = λ i. from
  next_after (t ∷ earlier) = onward_from (every periods) (next_after earlier) (earliest (length periods) (next_after earlier) t)

  -- "the furthest one given (the start included)"
  unfoldable pub furthest : List ℕ → ℕ
  furthest [] = from
  furthest (t ∷ earlier) = max t (furthest earlier)

  -- the premise in its two parts: each tick is at most 1,000,000,000 behind the furthest one given before it, and "no task falls 2,147,483,648
  -- ticks behind"
  unfoldable pub Premise : List ℕ → Type 0
  Premise [] = Unit {0}
  Premise (t ∷ earlier) =
      Premise earlier
      × (furthest earlier ≤ t + longest_period)
      × ((i : ℕ) → i < length periods → t < next_after earlier i + half_turn)
