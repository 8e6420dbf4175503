-- What document 01 says of the shares, the saturation step and the periods of a job of either kind.
-- Assumes nothing.
use Rattle.ground.proofs.Kit.{ℕ, ◌+◌, ◌-◌, ◌*◌, ◌≤◌, ◌<◌, ◌≡◌, arith, mul-le-mul_right}
use Rattle.ground.proofs.Rounding.{ceil-enough}
use Rattle.kinds.specs.Limits.{scale}
use Rattle.rule.specs.Rule.{most_cost, most_parts, Shortest}
use Rattle.rule.specs.Job.{Numbers, largest_of, least_of, share_at, saturation_at, period_at, Limited, ShareIs, StepIs, PeriodIs}
use Rattle.rule.proofs.Shares.{part-high, part_low, part_falls, share-falls, share-least, share-zero, share-rigid, share-high, share-saturated, share-above, saturation-high}
use Rattle.rule.proofs.Periods.{period-rises, period-shortest}

module _ (job : Numbers) where
  -- the share never rises with the step
  pub falls : (j k : ℕ) → j ≤ k → share_at job k ≤ share_at job j
  falls j k h = share-falls (largest_of job) (least_of job) job.e j k h

  -- and never falls below the least
  pub at_least : (k : ℕ) → least_of job ≤ share_at job k
  at_least k = share-least (largest_of job) (least_of job) job.e k

  -- from the saturation step on it is the least, for a job with E > 0
  pub saturated : (k : ℕ) → 1 ≤ job.e → saturation_at job ≤ k → share_at job k ≡ least_of job
  saturated k p h = share-saturated (largest_of job) (least_of job) job.e k p h

  -- and before it is above
  pub above : (k : ℕ) → k < saturation_at job → least_of job < share_at job k
  above k h = (share-above (largest_of job) (least_of job) job.e k h).1

-- of a job that keeps the limits of its kind
module _ (over within : ℕ) (job : Numbers) (limited : Limited over within job) where
  -- what the rules on plain numbers ask of a cost and of a share
  pub cost-most : job.c ≤ most_cost
  cost-most = omega (arith, mul-le-mul_right job.tmin limited.within-few)

  pub parts-most : (r : ℕ) → r ≤ within * scale → r ≤ most_parts
  parts-most r h = omega (arith, limited.within-few)

  pub least-over : over * scale < least_of job
  least-over = part_low job.c job.tmax over (omega arith) limited.c-over

  pub largest-within : largest_of job ≤ within * scale
  largest-within = part-high job.c job.tmin within limited.tmin-some limited.c-within

  pub least-largest : least_of job ≤ largest_of job
  least-largest = part_falls job.c job.tmin job.tmax limited.tmin-some limited.tmin-tmax

  -- at step 0 the share is the largest
  pub at_zero : share_at job 0 ≡ largest_of job
  at_zero = share-zero (largest_of job) (least_of job) job.e least-largest

  -- document 01: "With E = 0 the share stays the largest one."
  pub rigid : (k : ℕ) → job.e ≡ 0 → share_at job k ≡ largest_of job
  rigid k z = share-rigid (largest_of job) (least_of job) job.e k least-largest z

  pub share-over : (k : ℕ) → over * scale < share_at job k
  share-over k = omega (arith, at_least job k, least-over)

  pub share-within : (k : ℕ) → share_at job k ≤ within * scale
  share-within k = omega (arith, share-high (largest_of job) (least_of job) job.e k least-largest, largest-within)

  pub saturation-within : saturation_at job ≤ within * scale - (over * scale + 1)
  saturation-within = omega (arith, saturation-high (largest_of job) (least_of job) job.e, largest-within, least-over)

  -- document 01: "the smallest whole T from Tmin to Tmax with C × S ≤ share × T. One always exists."
  pub shortest : (k : ℕ) → Shortest job.c job.tmin job.tmax (share_at job k) (period_at job k)
  shortest k =
      period-shortest job.c job.tmin job.tmax (share_at job k) (omega arith) limited.tmin-tmax (omega (arith, share-over k)) (at_least job k)

  -- document 01: "At step 0 it is Tmin."
  pub shortest-at-zero : period_at job 0 ≡ job.tmin
  shortest-at-zero =
      let s = shortest 0 in
      let e : job.c * scale ≤ share_at job 0 * job.tmin = rw at_zero (ceil-enough (job.c * scale) job.tmin limited.tmin-some) in
      omega (arith, s.low, s.only job.tmin (omega arith) e)

  -- the period never falls with the step
  pub period-grows : (j k : ℕ) → j ≤ k → period_at job j ≤ period_at job k
  period-grows j k h =
      period-rises job.c job.tmin (share_at job j) (share_at job k) (omega (arith, share-over k)) (falls job j k h)

  -- what the functions hand back
  pub largest-is : (r : ℕ) → r ≡ largest_of job → ShareIs over within (largest_of job) r
  largest-is r e = record { is = e; some = omega (arith, least-over, least-largest); most = omega (arith, largest-within) }

  pub least-is : (r : ℕ) → r ≡ least_of job → ShareIs over within (least_of job) r
  least-is r e = record { is = e; some = omega (arith, least-over); most = omega (arith, least-largest, largest-within) }

  pub share-is : (k r : ℕ) → r ≡ share_at job k → ShareIs over within (share_at job k) r
  share-is k r e = record { is = e; some = omega (arith, share-over k); most = omega (arith, share-within k) }

  pub saturation-is : (r : ℕ) → r ≡ saturation_at job → StepIs over within (saturation_at job) r
  saturation-is r e = record { is = e; most = omega (arith, saturation-within) }

  pub period-is : (k r : ℕ) → r ≡ period_at job k → PeriodIs job k r
  period-is k r e = record { is = e; low = omega (arith, (shortest k).low); high = omega (arith, (shortest k).high) }
