-- A task's load, under either edition, covers its cost at its period, and at step 0 it is less than one part more than its cost at Tmin.
-- Assumes nothing.
use Rattle.ground.proofs.Kit.{ℕ, ◌+◌, ◌-◌, ◌*◌, ◌≤◌, ◌<◌, ap, mul-le-mul_right, arith}
use native.Mathlib.Nat.{div-mul-le_self}
use Rattle.ground.specs.Rounding.{ceil_div}
use Rattle.ground.proofs.Cases.{by_bool}
use Rattle.ground.proofs.Rounding.{ceil-enough}
use Rattle.kinds.specs.declared.Task.{Task}
use Rattle.kinds.specs.declared.Settings.{Settings}
use Rattle.kinds.specs.Limits.{scale}
use Rattle.kinds.specs.Settings.{tests_charge}
use Rattle.kinds.specs.Task.{Good, OnNotch}
use Rattle.share.specs.Share.{period_at, charge_at, load_at}
use Rattle.share.proofs.Tasks.{at_zero, shortest-on}
use Rattle.share.proofs.Charges.{load-first, load-second, load-share}

-- rounding up adds less than one
ceil-near : (a b : ℕ) → 1 ≤ b → ceil_div a b * b < a + b
ceil-near a b some = omega (arith, div-mul-le_self (a + (b - 1)) b)

module _ (s : Settings) (t : Task) (good : Good t) (on : OnNotch s.notch t) where
  charge-covers : (k : ℕ) → t.c * scale ≤ charge_at s.notch t k * period_at s.notch t k
  unfolding charge_at
  charge-covers k =
      let period = shortest-on t good s.notch on k in
      ceil-enough (t.c * scale) (period_at s.notch t k) (omega (arith, period.low, good.c-some, good.c-tmin))

  -- cost × S ≤ load × T
  pub load-covers : (k : ℕ) → scale * t.c ≤ load_at s t k * period_at s.notch t k
  load-covers k =
      by_bool (tests_charge s)
      (λ e. rw (load-second s t k e) (omega (arith, charge-covers k)))
      (λ e. rw (load-first s t k e) (omega (arith, (shortest-on t good s.notch on k).enough)))

  -- load × Tmin < cost × S + Tmin
  pub load-near : load_at s t 0 * t.tmin < scale * t.c + t.tmin
  load-near =
      let rounded = ceil-near (t.c * scale) t.tmin (omega (arith, good.c-some, good.c-tmin)) in
      omega (arith, rounded, mul-le-mul_right t.tmin (load-share s t good on 0), ap (λ (x : ℕ). x * t.tmin) (at_zero t good))
