-- What document 01 says of the shares, the saturation step and the periods of a good task, each a law of `rule`'s `Jobs`, and Ask 5 of its periods
-- on notches.
-- Assumes nothing.
use Rattle.ground.proofs.Kit.{ℕ, ◌*◌, ◌≤◌, ◌<◌, ◌≡◌, arith}
use Rattle.ground.proofs.Rounding.{ceil-enough}
use Rattle.kinds.specs.declared.Task.{Task}
use Rattle.kinds.specs.Limits.{scale}
use Rattle.kinds.specs.Task.{Good, OnNotch}
use Rattle.rule.specs.Rule.{period_of, Shortest, ShortestOn}
use Rattle.rule.specs.Tasks.{numbers_of, task-limited}
use Rattle.rule.proofs.Jobs as job
use Rattle.rule.proofs.Periods.{notched-shortest, notched-one}
use Rattle.share.specs.Share.{largest_of, least_of, share_at, saturation_at, period_at}

-- the share never rises with the step
pub falls : (t : Task) (j k : ℕ) → j ≤ k → share_at t k ≤ share_at t j
unfolding share_at
falls t j k h = job.falls (numbers_of t) j k h

-- and never falls below the least
pub at_least : (t : Task) (k : ℕ) → least_of t ≤ share_at t k
unfolding share_at
at_least t k = job.at_least (numbers_of t) k

-- from the saturation step on it is the least, for a task with E > 0
pub saturated : (t : Task) (k : ℕ) → 1 ≤ t.e → saturation_at t ≤ k → share_at t k ≡ least_of t
unfolding share_at saturation_at
saturated t k p h = job.saturated (numbers_of t) k p h

-- and before it is above
pub above : (t : Task) (k : ℕ) → k < saturation_at t → least_of t < share_at t k
unfolding share_at saturation_at
above t k h = job.above (numbers_of t) k h

module _ (t : Task) (g : Good t) where
  pub largest-most : largest_of t ≤ scale
  largest-most = job.largest-within 0 1 (numbers_of t) (task-limited t g)

  pub least-some : 1 ≤ least_of t
  least-some = job.least-over 0 1 (numbers_of t) (task-limited t g)

  pub least-largest : least_of t ≤ largest_of t
  least-largest = job.least-largest 0 1 (numbers_of t) (task-limited t g)

  -- at step 0 the share is the largest
  pub at_zero : share_at t 0 ≡ largest_of t
  unfolding share_at
  at_zero = job.at_zero 0 1 (numbers_of t) (task-limited t g)

  -- document 01: "With E = 0 the share stays the largest one."
  pub rigid : (k : ℕ) → t.e ≡ 0 → share_at t k ≡ largest_of t
  unfolding share_at
  rigid k z = job.rigid 0 1 (numbers_of t) (task-limited t g) k z

  pub share-some : (k : ℕ) → 1 ≤ share_at t k
  unfolding share_at
  share-some k = job.share-over 0 1 (numbers_of t) (task-limited t g) k

  pub share-most : (k : ℕ) → share_at t k ≤ scale
  unfolding share_at
  share-most k = job.share-within 0 1 (numbers_of t) (task-limited t g) k

  pub saturation-most : saturation_at t < scale
  unfolding saturation_at
  saturation-most = omega (arith, job.saturation-within 0 1 (numbers_of t) (task-limited t g))

  -- document 01: "the smallest whole T from Tmin to Tmax with C × S ≤ share × T. One always exists."
  pub shortest : (k : ℕ) → Shortest t.c t.tmin t.tmax (share_at t k) (period_of t.c t.tmin (share_at t k))
  unfolding share_at
  shortest k = job.shortest 0 1 (numbers_of t) (task-limited t g) k

  -- with notches of one tick the period is document 01's
  pub shortest-of-one : (k : ℕ) → Shortest t.c t.tmin t.tmax (share_at t k) (period_at 1 t k)
  unfolding period_at
  shortest-of-one k = rw (notched-one (period_of t.c t.tmin (share_at t k))) (shortest k)

  module _ (q : ℕ) (on : OnNotch q t) where
    -- Ask 5: "the smallest multiple of q from Tmin to Tmax with (C + 2w) × S ≤ share × T"; one always exists
    pub shortest-on : (k : ℕ) → ShortestOn q t.c t.tmin t.tmax (share_at t k) (period_at q t k)
    unfolding period_at
    shortest-on k = notched-shortest q on.some t.c t.tmin t.tmax (share_at t k) _ on.tmax-on (shortest k)

    -- document 01: "At step 0 it is Tmin."
    pub shortest-at-zero : period_at q t 0 ≡ t.tmin
    shortest-at-zero =
        let s = shortest-on 0 in
        let e : t.c * scale ≤ share_at t 0 * t.tmin = rw at_zero (ceil-enough (t.c * scale) t.tmin (omega arith)) in
        omega (arith, s.low, s.only t.tmin on.tmin-on (omega arith) e)
