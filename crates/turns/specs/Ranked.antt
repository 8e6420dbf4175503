-- Kernels that go by turns: in each tick the m pending jobs run whose turns come first.
-- Assumes nothing.
use Rattle.std.specs.Prelude.{ℕ, suc, ◌<◌, Bool, ◌≡◌, ltb}
use Rattle.ground.specs.Choice.{bit, both}
use Rattle.ground.specs.Total.{total}
use Rattle.schedule.specs.Jobs.{Jobs}
use Rattle.schedule.specs.Schedule.{Schedule}
use Rattle.turns.specs.Rule.{Rule, is_pending, schedule_by}

-- the turn of job j of task i in tick t: `turn t i j`
abbrev pub Turns : Type 0
Turns = ℕ → ℕ → ℕ → ℕ

-- at how many jobs a test holds whose turn comes before one
abbrev pub count_before : ℕ → ℕ → (ℕ → ℕ → ℕ) → (ℕ → ℕ → Bool) → ℕ → ℕ
count_before tasks jobs turn test before = total tasks jobs (λ i j. bit (both (test i j) (ltb (turn i j) before)))

-- of the jobs at which a test holds, those that fewer than m come before
abbrev pub is_taken : ℕ → ℕ → (ℕ → ℕ → ℕ) → (ℕ → ℕ → Bool) → ℕ → ℕ → ℕ → Bool
is_taken tasks jobs turn test m i j = both (test i j) (ltb (count_before tasks jobs turn test (turn i j)) m)

-- of the pending jobs these are to run
abbrev pub chosen : Turns → ℕ → Jobs → Rule
chosen turn m jobs work t i j = both (ltb i jobs.tasks) (is_taken jobs.tasks (suc t) (turn t) (is_pending jobs work t) m i j)

-- the schedule
abbrev pub ranked : Turns → ℕ → Jobs → Schedule
ranked turn m jobs = schedule_by (chosen turn m jobs)

-- no two of the jobs that can be pending in a tick have the same turn
abbrev pub Distinct : Turns → Jobs → Type 0
Distinct turn jobs = (t i : ℕ) → i < jobs.tasks → (j : ℕ) → j < suc t → (a : ℕ) → a < jobs.tasks → (b : ℕ) → b < suc t
    → turn t i j ≡ turn t a b → (i ≡ a) × (j ≡ b)
