-- A round of ticks, into which each period goes a whole number of times: its ticks are columns, and the jobs of tasks in it rows.
-- Assumes nothing.
use Rattle.std.specs.Prelude.{ℕ, ◌+◌, ◌*◌, ◌-◌, ◌/◌, ◌%◌, ◌≤◌, ◌<◌, ◌≡◌, eqb, leb, ltb}
use Rattle.ground.specs.Choice.{pick, both}
use Rattle.schedule.specs.Schedule.{Schedule}
use Rattle.whole_ticks.specs.Cells.{Parts, Cells}

-- some ticks; no period is 0, and each goes into them a whole number of times
pub record Round (round tasks : ℕ) (period : ℕ → ℕ) : Type 0 where
  pub some : 1 ≤ round
  pub periods : (i : ℕ) → i < tasks → 1 ≤ period i
  pub times : (i : ℕ) → i < tasks → (n : ℕ) × (round ≡ n * period i)

-- row i × round + k is job k of task i. It asks for its load of its period, rounded down, where its period is in the round, and of each tick of its period
-- it could be given its load
unfoldable pub round_parts : ℕ → ℕ → ℕ → ℕ → (ℕ → ℕ) → (ℕ → ℕ) → Parts
round_parts round m S tasks period load =
    record {
      rows = tasks * round;
      columns = round;
      ask = λ r. pick (ltb (r % round * period (r / round)) round) (load (r / round) * period (r / round) / S) 0;
      part = λ r t. pick (eqb (t / period (r / round)) (r % round)) (load (r / round)) 0;
      whole = S;
      most = m;
    }

-- round after round from a tick on: in a tick the job of a task runs in whose period the tick is, if its row has the tick
unfoldable pub in_rounds : ℕ → ℕ → (ℕ → ℕ) → ℕ → Cells → Schedule
in_rounds round tasks period from cells t i j =
    both (ltb i tasks) (both (leb from t) (both (eqb ((t - from) / period i) j) (cells (i * round + (t - from) % round / period i) ((t - from) % round))))
