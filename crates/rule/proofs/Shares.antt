-- Laws of shares and saturation steps, in document 01's words.
-- Assumes nothing.
use Rattle.ground.proofs.Kit.{ℕ, zero, suc, ◌-◌, ◌*◌, ◌≤◌, ◌<◌, ◌≡◌, refl, sym, ap, mul-le-mul_right, arith, ne_eqb}
use Rattle.ground.specs.Rounding.{ceil_div}
use Rattle.ground.proofs.Cases.{by_le}
use Rattle.ground.proofs.Rounding.{ceil-enough, ceil-least, ceil-over, ceil-falls, ceil-high, ceil-by-zero}
use Rattle.kinds.specs.Limits.{scale}
use Rattle.rule.specs.Rule.{part_of, share_of, saturation_of}

-- a cost of at most w periods has a share of at most w × S (w = 1 for a job that stays on one processor)
pub part-high : (cost t w : ℕ) → 1 ≤ t → cost ≤ w * t → part_of cost t ≤ w * scale
part-high cost t w h l = ceil-least (cost * scale) t (w * scale) h (omega (arith, mul-le-mul_right scale l))

-- and one of more than v periods a share above v × S
pub part_low : (cost t v : ℕ) → 1 ≤ t → v * t < cost → v * scale < part_of cost t
part_low cost t v h l = ceil-over (cost * scale) t (v * scale) h (omega arith)

-- a longer period takes no larger share
pub part_falls : (cost t t' : ℕ) → 1 ≤ t → t ≤ t' → part_of cost t' ≤ part_of cost t
part_falls cost t t' h l = ceil-falls (cost * scale) t t' h l

-- the share never rises with the step, and never falls below the least
pub share-falls : (hi lo e j k : ℕ) → j ≤ k → share_of hi lo e k ≤ share_of hi lo e j
share-falls hi lo e j k h = omega (arith, mul-le-mul_right e h)

pub share-least : (hi lo e k : ℕ) → lo ≤ share_of hi lo e k
share-least hi lo e k = omega arith

pub share-high : (hi lo e k : ℕ) → lo ≤ hi → share_of hi lo e k ≤ hi
share-high hi lo e k h = omega arith

-- at step 0 it is the largest
pub share-zero : (hi lo e : ℕ) → lo ≤ hi → share_of hi lo e 0 ≡ hi
share-zero hi lo e h = omega arith

-- document 01: "With E = 0 the share stays the largest one."
pub share-rigid : (hi lo e k : ℕ) → lo ≤ hi → e ≡ 0 → share_of hi lo e k ≡ hi
share-rigid hi lo e k h z = omega (arith, ap (λ (x : ℕ). k * x) z)

-- with E = 0 too the saturation step is what the division gives, since a quotient by 0 is 0
pub saturation-divides : (hi lo e : ℕ) → saturation_of hi lo e ≡ ceil_div (hi - lo) e
saturation-divides hi lo zero = sym (ceil-by-zero (hi - lo) 0 refl)
saturation-divides hi lo (suc e) = rw (ne_eqb (suc e) 0 (λ z. omega arith))

pub saturation-high : (hi lo e : ℕ) → saturation_of hi lo e ≤ hi - lo
saturation-high hi lo e = omega (arith, saturation-divides hi lo e, ceil-high (hi - lo) e)

-- from the saturation step on the share is the least
pub share-saturated : (hi lo e k : ℕ) → 1 ≤ e → saturation_of hi lo e ≤ k → share_of hi lo e k ≡ lo
share-saturated hi lo e k p h =
    let l : ceil_div (hi - lo) e ≤ k = omega (arith, saturation-divides hi lo e) in
    omega (arith, ceil-enough (hi - lo) e p, mul-le-mul_right e l)

-- and before it is above; a task with a saturation step ahead has an elasticity
pub share-above : (hi lo e k : ℕ) → k < saturation_of hi lo e → (1 ≤ e) × (lo < share_of hi lo e k)
share-above hi lo e k h =
    let q = saturation-divides hi lo e in
    let p : 1 ≤ e = by_le e 0 (λ z. absurd (omega (arith, ceil-by-zero (hi - lo) e (omega arith)))) (λ g. g) in
    (p, by_le (hi - lo) (k * e) (λ g. absurd (omega (arith, ceil-least (hi - lo) e k p g))) (λ g. omega arith))
