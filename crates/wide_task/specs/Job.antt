-- A task that needs several cores as a job, and that a good one keeps the limits of a job that more than one processor serves.
-- Assumes nothing.
use native.Mathlib.Omega.{arith}
use Rattle.rule.specs.Job.{Numbers, Limited}
use Rattle.wide_task.specs.declared.WideTask.{WideTask}
use Rattle.wide_task.specs.Limits.{most_tmins}
use Rattle.wide_task.specs.WideTask.{Good}

abbrev pub numbers_of : WideTask → Numbers
numbers_of t = record { c = t.c; tmin = t.tmin; tmax = t.tmax; e = t.e }

pub wide-limited : (t : WideTask) → Good t → Limited 1 most_tmins (numbers_of t)
wide-limited t good =
    record {
      within-few = omega arith;
      tmin-some = omega arith;
      tmin-tmax = good.tmin-tmax;
      tmax-most = good.tmax-most;
      c-over = omega arith;
      c-within = good.c-most;
    }
