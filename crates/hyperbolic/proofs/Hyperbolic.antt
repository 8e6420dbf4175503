-- The hyperbolic bound of Bini, Buttazzo and Buttazzo: within it some time up to T is enough for the work that is released in it.
-- Assumes nothing.
use Rattle.ground.proofs.Kit.{ℕ, zero, suc, ◌+◌, ◌*◌, ◌/◌, ◌^◌, ◌≤◌, ◌<◌, ◌≡◌, refl, le_trans, mul-le-mul_left, mul-le-mul_right, arith, leb, le-leb}
use Rattle.ground.proofs.Kit.{leb-true, leb-false, lt-ltb, le-ltb}
use native.Mathlib.Nat.{mul-lt-mul_of_pos_right, mul-pos, lt_of_mul-lt-mul_left}
use native.Mathlib.Nat.{lt-div-mul-add, le-div_iff_mul-le, div-mul-le_self, div_self, le_of_eq, lt_of_lt_of_le}
use Rattle.ground.specs.Folds.{sum_to, prod_to}
use Rattle.ground.specs.Rounding.{ceil_div}
use Rattle.ground.proofs.Cases.{by_bool, by_le}
use Rattle.ground.proofs.Folds.{sum-le, sum-cong}
use Rattle.ground.proofs.Rounding.{ceil-least}
use Rattle.ground.proofs.Sums.{sum-plus}
use Rattle.ground.proofs.Tests.{by_all}
use Rattle.ground.proofs.Products.{prod-le, prod-cong, power-some}
use Rattle.hyperbolic.specs.Bounds.{WithinHyperbolic}
use Rattle.hyperbolic.specs.Demand.{among_short, released, demand}
use Rattle.hyperbolic.proofs.Staircase.{added_by, sum_by, product_by, strict-step, climbs}

-- the last multiple of the period that is at most T
abbrev last_multiple : (ℕ → ℕ) → ℕ → ℕ → ℕ
last_multiple period T i = T / period i * period i

-- the work that the task releases up to it
abbrev work_to_last : (ℕ → ℕ) → (ℕ → ℕ) → ℕ → ℕ → ℕ
work_to_last period cost T i = T / period i * cost i

-- up to its last multiple q × p a task releases at most q jobs
jobs-to-last : (t p q c : ℕ) → 1 ≤ p → t ≤ q * p → ceil_div t p * c ≤ q * c + 0
jobs-to-last t p q c some l = omega (arith, mul-le-mul_right c (ceil-least t p q some l))

-- and up to T at most one more, which is no more work where q is not 0
jobs-after : (t T p q c : ℕ) → 1 ≤ p → t ≤ T → T < q * p + p → c ≤ q * c → ceil_div t p * c ≤ q * c + q * c
jobs-after t T p q c some l m h =
    let enough : t ≤ suc q * p = omega arith in
    omega (arith, mul-le-mul_right c (ceil-least t p (suc q) some enough))

-- A that grew no faster than the product from s to p, and in the end to twice A less fast than the product to P
too_much : (A g p P s : ℕ) → (A + A) * p < g * P → g * s ≤ A * p → 0 < s → 2 * s < P
too_much A g p P s h c some =
    let all : (A * p) * (2 * s) < (A * p) * P = omega (arith, mul-lt-mul_of_pos_right h some, mul-le-mul_right P c) in
    lt_of_mul-lt-mul_left (A * p) all

module _ (n T S : ℕ) (period cost load : ℕ → ℕ) (some : 0 < S)
    (some-period : (i : ℕ) → i < n → 1 ≤ period i)
    (covers : (i : ℕ) → i < n → cost i * S ≤ load i * period i)
    (short : (i : ℕ) → i < n → cost i ≤ T / period i * cost i) where
  -- the work that is released in t ticks is at most that up to the last multiples, and that once more of each task whose last multiple has passed
  demand-most : (t : ℕ) → t ≤ T
      → released period cost n t ≤ sum_to (work_to_last period cost T) n + sum_by (last_multiple period T) (work_to_last period cost T) t n
  unfolding sum_by
  demand-most t l =
      le_trans
      (sum-le _ _ n
      (λ i b. by_le t (last_multiple period T i)
      (λ h. rw (le-ltb (last_multiple period T i) t h) (jobs-to-last t (period i) (T / period i) (cost i) (some-period i b) h))
      (λ h. rw (lt-ltb (last_multiple period T i) t h)
      (jobs-after t T (period i) (T / period i) (cost i) (some-period i b) l (lt-div-mul-add {a = T} {b = period i} (some-period i b)) (short i b)))))
      (le_of_eq (sum-plus (work_to_last period cost T) (added_by (last_multiple period T) (work_to_last period cost T) t) n))

  -- and no task's work up to its last multiple is more than load / S of it
  slow : (i : ℕ) → i < n → work_to_last period cost T i * S ≤ load i * last_multiple period T i
  slow i b = omega (arith, mul-le-mul_left (T / period i) (covers i b))

  -- where each time up to T is less than the work that is released in it, and a task with a cost has the period T, the product is too large
  module _ (k : ℕ) (among : k < n) (longest : period k ≡ T) (costs : 0 < cost k)
      (fails : (t : ℕ) → 1 ≤ t → t ≤ T → t < released period cost n t) where
    -- a task adds to the sum when the last multiple of its period up to T has passed
    abbrev time : ℕ → ℕ
    time = last_multiple period T

    -- and adds the work that it releases up to it
    abbrev rise : ℕ → ℕ
    rise = work_to_last period cost T

    -- so the sum stays above the time
    above : (t : ℕ) → 1 ≤ t → t ≤ T → t < sum_to rise n + sum_by time rise t n
    above t l m = lt_of_lt_of_le (fails t l m) (demand-most t m)

    -- from time 0 on
    from_start : (t : ℕ) → t < T → t ≤ sum_to rise n + sum_by time rise t n
    from_start zero l = omega arith
    from_start (suc t) l = omega (arith, above (suc t) (omega arith) (omega arith))

    -- the last multiple of task k is T itself
    own-time : time k ≡ T
    own-time = rw longest (own T (rw longest at (some-period k among)))
      where
        own : (T : ℕ) → 1 ≤ T → T / T * T ≡ T
        own T l = rw (div_self l) (omega arith)

    -- and it has a load
    own-load : 0 < load k
    own-load = by_le (load k) 0 (λ l. absurd (none l)) (λ l. l)
      where
        none : load k ≤ 0 → ⊥
        none l = omega (arith, covers k among, mul-pos costs some, mul-le-mul_right (period k) l)

    -- no last multiple is past T
    past : (i : ℕ) → time i < suc T
    past i = omega (arith, div-mul-le_self T (period i))

    -- so past T all work has been added once more
    all-added : sum_by time rise (suc T) n ≡ sum_to rise n
    unfolding sum_by
    all-added = sum-cong _ _ n (λ i b. rw (lt-ltb (time i) (suc T) (past i)))

    -- and every factor is in the product
    all-factors : product_by time load S (suc T) n ≡ prod_to (λ i. S + load i) n
    unfolding product_by
    all-factors = prod-cong _ _ n (λ i b. rw (lt-ltb (time i) (suc T) (past i)))

    -- the sum of all work has doubled then, and the product has more than doubled
    product-large : 2 * S ^ n < prod_to (λ i. S + load i) n
    product-large =
        let A = sum_to rise n in
        let one : 1 ≤ T = rw longest at (some-period k among) in
        let last = strict-step time rise load S A n slow some T k (above T one (omega arith)) among own-time own-load in
        too_much A _ _ _ (S ^ n) (rw (all-added, all-factors) at last) (climbs time rise load S A n slow some T from_start) (power-some S n some)

  -- so where it is not, some time is enough: the times are tried in turn
  found-time : (k : ℕ) → k < n → period k ≡ T → 0 < cost k → WithinHyperbolic S load n
      → (t : ℕ) × (1 ≤ t) × (t ≤ T) × (released period cost n t ≤ t)
  found-time k among longest costs small =
      by_all (λ t. leb (released period cost n t) t) 0 T
      (λ none. absurd (omega (arith, small, product-large k among longest costs (λ t l m. leb-false _ _ (none t l (within t m))))))
      (λ t l m e. (t, l, omega arith, leb-true _ _ e))
    where
      within : (t : ℕ) → t ≤ T → t ≤ 0 + T
      within t l = omega arith

-- a task whose period is at most T counts as it is, and any other for nothing
module _ (n S k : ℕ) (period cost load : ℕ → ℕ) (some : 0 < S) (among : k < n)
    (some-period : (i : ℕ) → i < n → 1 ≤ period i)
    (covers : (i : ℕ) → i < n → cost i * S ≤ load i * period i) where
  -- the loads among the short periods cover the costs among them
  covers-short : (i : ℕ) → i < n → among_short period (period k) cost i * S ≤ among_short period (period k) load i * period i
  covers-short i b = by_bool (leb (period i) (period k)) (λ e. rw e (covers i b)) (λ e. rw e (omega arith))

  -- and a period that is short goes at least once into T
  fits-once : (i : ℕ) → i < n → among_short period (period k) cost i ≤ period k / period i * among_short period (period k) cost i
  fits-once i b =
      by_bool (leb (period i) (period k))
      (λ e. rw e (omega (arith, mul-le-mul_right (cost i) (once (leb-true _ _ e)))))
      (λ e. rw e (omega arith))
    where
      once : period i ≤ period k → 1 ≤ period k / period i
      once l = (le-div_iff_mul-le (some-period i b)).1 (omega arith)

  -- a task with a cost: some time, at most its period, is enough for the demand of the tasks with periods no longer than its own
  pub enough-time : 0 < cost k → WithinHyperbolic S load n
      → (t : ℕ) × (1 ≤ t) × (t ≤ period k) × (demand period cost n (period k) t ≤ t)
  enough-time costs small =
      found-time n (period k) S period (among_short period (period k) cost) (among_short period (period k) load) some some-period covers-short fits-once
      k among refl (rw (le-leb (period k) (period k) (omega arith)) costs)
      (le_trans (prod-le _ _ n (λ i b. by_bool (leb (period i) (period k)) (λ e. rw e (omega arith)) (λ e. rw e (omega arith)))) small)
