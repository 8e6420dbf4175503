-- The period of a share is the shortest in its range that the share allows, and moved on to the next notch the shortest on a notch.
-- Assumes nothing.
use Rattle.ground.proofs.Kit.{ℕ, ◌+◌, ◌-◌, ◌*◌, ◌/◌, ◌%◌, ◌≤◌, ◌<◌, ◌≡◌, le_trans, mul-le-mul_left, mul-le-mul_right, arith}
use native.Mathlib.Nat.{mul_comm, le-max_right, max-le, div-add-mod', div-mul-le_self, mul-mod_left}
use Rattle.ground.specs.Rounding.{ceil_div}
use Rattle.ground.proofs.Rounding.{ceil-enough, ceil-least, ceil-falls}
use Rattle.kinds.specs.Limits.{scale}
use Rattle.rule.specs.Rule.{part_of, period_of, Shortest, notched_up, ShortestOn}

-- a smaller share has no shorter period
pub period-rises : (cost tmin s s' : ℕ) → 1 ≤ s' → s' ≤ s → period_of cost tmin s ≤ period_of cost tmin s'
period-rises cost tmin s s' p h = omega (arith, ceil-falls (cost * scale) s' s p h)

-- document 01: "One always exists", since the share is at least the least one
pub period-shortest : (cost tmin tmax s : ℕ) → 1 ≤ tmax → tmin ≤ tmax → 1 ≤ s → part_of cost tmax ≤ s
    → Shortest cost tmin tmax s (period_of cost tmin s)
period-shortest cost tmin tmax s ht hm p h =
    let q = ceil_div (cost * scale) s in
    let w : cost * scale ≤ tmax * s =
    omega (arith, ceil-enough (cost * scale) tmax ht, mul-le-mul_right tmax h, mul_comm s tmax) in
    let v : cost * scale ≤ s * q = omega (arith, ceil-enough (cost * scale) s p, mul_comm s q) in
    record {
      low = omega arith;
      high = omega (arith, ceil-least (cost * scale) s tmax p w);
      enough = le_trans v (mul-le-mul_left s (le-max_right tmin q));
      only = λ x l e. max-le l (ceil-least (cost * scale) s x p (omega (arith, mul_comm s x)));
    }

-- a multiple of q is so many times q
whole : (q t : ℕ) → t % q ≡ 0 → t ≡ t / q * q
whole q t e = omega (arith, div-add-mod' t q)

module _ (q : ℕ) (some : 1 ≤ q) where
  -- the next notch is not before t, and no multiple of q from t on is before it
  pub notched-from : (t : ℕ) → t ≤ notched_up q t
  notched-from t = ceil-enough t q some

  pub notched-least : (t x : ℕ) → x % q ≡ 0 → t ≤ x → notched_up q t ≤ x
  notched-least t x e h =
      let w = whole q x e in
      let l : ceil_div t q ≤ x / q = ceil-least t q (x / q) some (omega arith) in
      omega (arith, mul-le-mul_right q l)

  pub notched-near : (t : ℕ) → notched_up q t < t + q
  notched-near t = omega (arith, div-mul-le_self (t + (q - 1)) q)

  -- a later time has no earlier notch
  pub notched-rises : (t u : ℕ) → t ≤ u → notched_up q t ≤ notched_up q u
  notched-rises t u h = notched-least t (notched_up q u) (mul-mod_left (ceil_div u q) q) (le_trans h (notched-from u))

  -- the shortest period, moved on to the next notch, is the shortest on a notch; where Tmax is on one, one always exists
  pub notched-shortest : (cost tmin tmax share t : ℕ) → tmax % q ≡ 0 → Shortest cost tmin tmax share t
      → ShortestOn q cost tmin tmax share (notched_up q t)
  notched-shortest cost tmin tmax share t e s =
      record {
        on = mul-mod_left (ceil_div t q) q;
        low = le_trans s.low (notched-from t);
        high = notched-least t tmax e s.high;
        enough = le_trans s.enough (mul-le-mul_left share (notched-from t));
        only = λ x m l h. notched-least t x m (s.only x l h);
      }

  -- a job that comes at that period takes no more than the share that allows it
  pub charge-high : (cost tmin s : ℕ) → 1 ≤ tmin → 1 ≤ s → part_of cost (notched_up q (period_of cost tmin s)) ≤ s
  charge-high cost tmin s from p =
      let t = period_of cost tmin s in
      let v : cost * scale ≤ s * ceil_div (cost * scale) s = omega (arith, ceil-enough (cost * scale) s p, mul_comm s (ceil_div (cost * scale) s)) in
      let w = le_trans v (mul-le-mul_left s (le_trans (le-max_right tmin (ceil_div (cost * scale) s)) (notched-from t))) in
      ceil-least (cost * scale) (notched_up q t) s (omega (arith, notched-from t)) w

-- notches of one tick are document 01's whole numbers
pub notched-one : (t : ℕ) → notched_up 1 t ≡ t
notched-one t = omega arith
