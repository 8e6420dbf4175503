-- Ticks in parts.
-- Assumes nothing.
use Rattle.std.specs.Prelude.{ℕ, ◌*◌}
use Rattle.schedule.specs.Jobs.{Jobs}

-- the same jobs on a clock that counts S parts for a tick
abbrev pub in_parts : ℕ → Jobs → Jobs
in_parts S jobs =
    record {
      tasks = jobs.tasks;
      period = λ i. jobs.period i * S;
      release = λ i j. jobs.release i j * S;
      need = λ i j. jobs.need i j * S;
    }
