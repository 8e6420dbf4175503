-- A task record as a job, and that a good one keeps the limits of a job that one processor serves.
-- Assumes nothing.
use native.Mathlib.Omega.{arith}
use Rattle.kinds.specs.declared.Task.{Task}
use Rattle.kinds.specs.Task.{Good}
use Rattle.rule.specs.Job.{Numbers, Limited}

abbrev pub numbers_of : Task → Numbers
numbers_of t = record { c = t.c; tmin = t.tmin; tmax = t.tmax; e = t.e }

pub task-limited : (t : Task) → Good t → Limited 0 1 (numbers_of t)
task-limited t good =
    record {
      within-few = omega arith;
      tmin-some = omega arith;
      tmin-tmax = good.tmin-tmax;
      tmax-most = good.tmax-most;
      c-over = omega arith;
      c-within = omega arith;
    }
