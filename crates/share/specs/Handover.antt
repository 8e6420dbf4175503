-- What the functions hand each other.
-- Assumes nothing.
use Rattle.std.specs.Prelude.{ℕ}
use Rattle.rule.specs.Job as job

-- a share of a job that one processor serves: some of it, and no more than all
abbrev pub ShareIs : ℕ → ℕ → Type 0
ShareIs share r = job.ShareIs 0 1 share r
