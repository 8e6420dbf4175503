-- A change of plan at a tick c.
-- Assumes nothing.
use Rattle.std.specs.Prelude.{ℕ, ◌≤◌, ◌<◌, leb, ltb}
use Rattle.ground.specs.Choice.{both}
use Rattle.schedule.specs.Jobs.{Jobs}
use Rattle.schedule.specs.Schedule.{Schedule, done, MeetsDeadline, MeetsDeadlines}

-- what runs before tick c, and nothing from it on
abbrev pub until : ℕ → Schedule → Schedule
until c runs t i j = both (ltb t c) (runs t i j)

-- what runs from tick c on, and nothing before it
abbrev pub since : ℕ → Schedule → Schedule
since c runs t i j = both (leb c t) (runs t i j)

-- at tick c every job that was released before it is done
abbrev pub QuietAt : ℕ → Jobs → Schedule → Type 0
QuietAt c jobs runs = (i : ℕ) → i < jobs.tasks → (j : ℕ) → jobs.release i j < c → jobs.need i j ≤ done runs i j c

-- no job is released before tick c
abbrev pub StartsAt : ℕ → Jobs → Type 0
StartsAt c jobs = (i : ℕ) → i < jobs.tasks → (j : ℕ) → c ≤ jobs.release i j

-- the old jobs run up to tick c and the new ones from it on: each old job that was released before c meets its deadline, and so does every new one
pub record ChangesAt (c : ℕ) (old : Jobs) (before : Schedule) (new : Jobs) (after : Schedule) : Type 0 where
  pub old-met : (i : ℕ) → i < old.tasks → (j : ℕ) → old.release i j < c → MeetsDeadline old (until c before) i j
  pub new-met : MeetsDeadlines new (since c after)
