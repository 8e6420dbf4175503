-- What document 01 and Ask 4 say of the shares, the saturation step, the periods and the cores of a good task; all but the cores are laws of
-- `rule`'s `Jobs`.
-- Assumes nothing.
use Rattle.ground.proofs.Kit.{ℕ, ◌-◌, ◌*◌, ◌≤◌, ◌<◌, ◌≡◌, mul-le-mul_left, arith}
use Rattle.ground.proofs.Rounding.{ceil-enough, ceil-least, ceil-over, ceil-falls}
use Rattle.kinds.specs.Limits.{scale, longest_period}
use Rattle.rule.specs.Rule.{Shortest}
use Rattle.rule.proofs.Jobs as job
use Rattle.wide_task.specs.declared.WideTask.{WideTask}
use Rattle.wide_task.specs.Limits.{most_tmins, most_share, most_steps, most_cores}
use Rattle.wide_task.specs.WideTask.{Good}
use Rattle.wide_task.specs.Job.{numbers_of, wide-limited}
use Rattle.wide_task.specs.Cores.{largest_of, least_of, share_at, saturation_at, period_at, cores_at, Fewest}
use Rattle.wide_task.specs.Handover.{CoresIs}

-- the share never rises with the step
pub falls : (t : WideTask) (j k : ℕ) → j ≤ k → share_at t k ≤ share_at t j
unfolding share_at
falls t j k h = job.falls (numbers_of t) j k h

-- and never falls below the least
pub at_least : (t : WideTask) (k : ℕ) → least_of t ≤ share_at t k
unfolding share_at
at_least t k = job.at_least (numbers_of t) k

module _ (t : WideTask) (g : Good t) where
  pub largest-most : largest_of t ≤ most_share
  largest-most = job.largest-within 1 most_tmins (numbers_of t) (wide-limited t g)

  -- Ask 4: "A share may exceed S here": it always does, since the cost is above every period
  pub least-over : scale < least_of t
  least-over = job.least-over 1 most_tmins (numbers_of t) (wide-limited t g)

  pub least-largest : least_of t ≤ largest_of t
  least-largest = job.least-largest 1 most_tmins (numbers_of t) (wide-limited t g)

  -- at step 0 the share is the largest
  pub at_zero : share_at t 0 ≡ largest_of t
  unfolding share_at
  at_zero = job.at_zero 1 most_tmins (numbers_of t) (wide-limited t g)

  pub share-over : (k : ℕ) → scale < share_at t k
  unfolding share_at
  share-over k = job.share-over 1 most_tmins (numbers_of t) (wide-limited t g) k

  pub share-most : (k : ℕ) → share_at t k ≤ most_share
  unfolding share_at
  share-most k = job.share-within 1 most_tmins (numbers_of t) (wide-limited t g) k

  pub saturation-most : saturation_at t ≤ most_steps
  unfolding saturation_at
  saturation-most = job.saturation-within 1 most_tmins (numbers_of t) (wide-limited t g)

  -- document 01: "the smallest whole T from Tmin to Tmax with C × S ≤ share × T. One always exists."
  pub shortest : (k : ℕ) → Shortest t.c t.tmin t.tmax (share_at t k) (period_at t k)
  unfolding share_at period_at
  shortest k = job.shortest 1 most_tmins (numbers_of t) (wide-limited t g) k

  -- document 01: "At step 0 it is Tmin."
  pub shortest-at-zero : period_at t 0 ≡ t.tmin
  unfolding share_at period_at
  shortest-at-zero = job.shortest-at-zero 1 most_tmins (numbers_of t) (wide-limited t g)

  -- the period never falls with the step
  pub period-grows : (j k : ℕ) → j ≤ k → period_at t j ≤ period_at t k
  unfolding share_at period_at
  period-grows j k h = job.period-grows 1 most_tmins (numbers_of t) (wide-limited t g) j k h

  -- the span ends before every period does
  pub span-ends : (k : ℕ) → t.l < period_at t k
  span-ends k = omega (arith, (shortest k).low)

  -- the cores in words
  pub fewest : (k : ℕ) → Fewest t k (cores_at t k)
  unfolding cores_at
  fewest k =
      record {
        enough = ceil-enough (t.c - t.l) (period_at t k - t.l) (omega (arith, span-ends k));
        only = λ x e. ceil-least (t.c - t.l) (period_at t k - t.l) x (omega (arith, span-ends k)) e;
      }

  -- at least two, since the cost is above every period
  pub cores-two : (k : ℕ) → 2 ≤ cores_at t k
  unfolding cores_at
  cores-two k =
      ceil-over (t.c - t.l) (period_at t k - t.l) 1 (omega (arith, span-ends k)) (omega (arith, span-ends k, (shortest k).high))

  -- and at most what the limits allow
  pub cores-most : (k : ℕ) → cores_at t k ≤ most_cores
  unfolding cores_at
  cores-most k =
      let s = (shortest k).low in
      let d = period_at t k - t.l in
      let p : 1 ≤ d = omega (arith, span-ends k) in
      let many : 15 * longest_period * 1 ≤ 15 * longest_period * d = mul-le-mul_left (15 * longest_period) p in
      ceil-least (t.c - t.l) d most_cores p (omega arith)

  -- the cores never rise with the step
  pub cores-fall : (j k : ℕ) → j ≤ k → cores_at t k ≤ cores_at t j
  unfolding cores_at
  cores-fall j k h =
      ceil-falls (t.c - t.l) (period_at t j - t.l) (period_at t k - t.l) (omega (arith, span-ends j)) (omega (arith, period-grows j k h))

  -- what the function hands back
  pub cores-is : (k r : ℕ) → r ≡ cores_at t k → CoresIs t k r
  cores-is k r e = record { is = e; most = omega (arith, e, cores-most k) }
