-- Ask 10: the charge of a good task is at most its share, is never 0 and never rises with the step; so is what either edition tests.
-- Assumes nothing.
use Rattle.ground.proofs.Kit.{ℕ, ◌≤◌, true, false, ◌≡◌, sym, le_trans, mul-le-mul_right, arith}
use Rattle.ground.proofs.Cases.{by_bool}
use Rattle.kinds.specs.declared.Task.{Task}
use Rattle.kinds.specs.declared.Settings.{Settings}
use Rattle.kinds.specs.Limits.{scale}
use Rattle.kinds.specs.Settings.{tests_charge}
use Rattle.kinds.specs.Task.{Good, OnNotch}
use Rattle.rule.proofs.Shares.{part_low, part_falls}
use Rattle.rule.proofs.Periods.{charge-high}
use Rattle.share.specs.Share.{share_at, period_at, charge_at, load_at}
use Rattle.share.proofs.Tasks.{falls, at_zero, share-some, share-most, shortest-on, shortest-at-zero}

module _ (t : Task) (g : Good t) (q : ℕ) (on : OnNotch q t) where
  period-some : (k : ℕ) → 1 ≤ period_at q t k
  period-some k = omega (arith, (shortest-on t g q on k).low, g.c-some, g.c-tmin)

  -- the period never falls with the step
  pub period-rises : (j k : ℕ) → j ≤ k → period_at q t j ≤ period_at q t k
  period-rises j k h =
      let later = shortest-on t g q on k in
      let enough = le_trans later.enough (mul-le-mul_right (period_at q t k) (falls t j k h)) in
      (shortest-on t g q on j).only (period_at q t k) later.on later.low enough

  -- "A granted period is rounded up, so its task uses less than its share", or as much
  pub charge-share : (k : ℕ) → charge_at q t k ≤ share_at t k
  unfolding charge_at period_at
  charge-share k = charge-high q on.some t.c t.tmin (share_at t k) (omega (arith, g.c-some, g.c-tmin)) (share-some t g k)

  pub charge-some : (k : ℕ) → 1 ≤ charge_at q t k
  unfolding charge_at
  charge-some k = part_low t.c (period_at q t k) 0 (period-some k) (omega (arith, g.c-some))

  pub charge-falls : (j k : ℕ) → j ≤ k → charge_at q t k ≤ charge_at q t j
  unfolding charge_at
  charge-falls j k h = part_falls t.c (period_at q t j) (period_at q t k) (period-some j) (period-rises j k h)

  -- at step 0 the period is Tmin, and the charge is the share
  pub charge-at-zero : charge_at q t 0 ≡ share_at t 0
  unfolding charge_at
  charge-at-zero = rw (shortest-at-zero t g q on) (sym (at_zero t g))

-- each edition's load
pub load-first : (s : Settings) (t : Task) (k : ℕ) → tests_charge s ≡ false → load_at s t k ≡ share_at t k
unfolding load_at
load-first s t k e = rw e

pub load-second : (s : Settings) (t : Task) (k : ℕ) → tests_charge s ≡ true → load_at s t k ≡ charge_at s.notch t k
unfolding load_at
load-second s t k e = rw e

-- what both editions share
module _ (s : Settings) (t : Task) (g : Good t) (on : OnNotch s.notch t) where
  pub load-share : (k : ℕ) → load_at s t k ≤ share_at t k
  load-share k =
      by_bool (tests_charge s)
      (λ e. omega (arith, load-second s t k e, charge-share t g s.notch on k))
      (λ e. omega (arith, load-first s t k e))

  pub load-some : (k : ℕ) → 1 ≤ load_at s t k
  load-some k =
      by_bool (tests_charge s)
      (λ e. omega (arith, load-second s t k e, charge-some t g s.notch on k))
      (λ e. omega (arith, load-first s t k e, share-some t g k))

  pub load-most : (k : ℕ) → load_at s t k ≤ scale
  load-most k = omega (arith, load-share k, share-most t g k)

  pub load-falls : (j k : ℕ) → j ≤ k → load_at s t k ≤ load_at s t j
  load-falls j k h =
      by_bool (tests_charge s)
      (λ e. omega (arith, load-second s t j e, load-second s t k e, charge-falls t g s.notch on j k h))
      (λ e. omega (arith, load-first s t j e, load-first s t k e, falls t j k h))
