-- A job of either kind by its numbers: the rules of `Rule` for it, what the limits of its kind say of it, and what a job that keeps them is given.
-- Assumes nothing.
use Rattle.std.specs.Prelude.{ℕ, ◌+◌, ◌-◌, ◌*◌, ◌≤◌, ◌<◌, ◌≡◌}
use Rattle.kinds.specs.Limits.{scale, longest_period}
use Rattle.rule.specs.Rule.{part_of, share_of, saturation_of, period_of}

-- the whole cost C of a job, its shortest and longest period, its elasticity E
pub record Numbers : Type 0 where
  pub c : ℕ
  pub tmin : ℕ
  pub tmax : ℕ
  pub e : ℕ

abbrev pub largest_of : Numbers → ℕ
largest_of job = part_of job.c job.tmin

abbrev pub least_of : Numbers → ℕ
least_of job = part_of job.c job.tmax

abbrev pub share_at : Numbers → ℕ → ℕ
share_at job k = share_of (largest_of job) (least_of job) job.e k

abbrev pub saturation_at : Numbers → ℕ
saturation_at job = saturation_of (largest_of job) (least_of job) job.e

abbrev pub period_at : Numbers → ℕ → ℕ
period_at job k = period_of job.c job.tmin (share_at job k)

-- the most processors whose whole time a job of any kind may take
abbrev pub most_whole : ℕ
most_whole = 16

-- a job takes at most the whole time of `within` processors in its shortest period, and more than that of `over` in its longest
pub record Limited (over within : ℕ) (job : Numbers) : Type 0 where
  pub within-few : within ≤ most_whole
  pub tmin-some : 1 ≤ job.tmin
  pub tmin-tmax : job.tmin ≤ job.tmax
  pub tmax-most : job.tmax ≤ longest_period
  pub c-over : over * job.tmax < job.c
  pub c-within : job.c ≤ within * job.tmin

-- a share of such a job
pub record ShareIs (over within share r : ℕ) : Type 0 where
  pub is : r ≡ share
  pub some : over * scale < r
  pub most : r ≤ within * scale

-- a saturation step of such a job, or the greatest of several
pub record StepIs (over within step r : ℕ) : Type 0 where
  pub is : r ≡ step
  pub most : r ≤ within * scale - (over * scale + 1)

-- a period of such a job
pub record PeriodIs (job : Numbers) (k r : ℕ) : Type 0 where
  pub is : r ≡ period_at job k
  pub low : job.tmin ≤ r
  pub high : r ≤ job.tmax
