-- The division rounded up is the least quotient that is enough.
-- Assumes nothing.
use Rattle.ground.proofs.Kit.{ℕ, zero, suc, ◌+◌, ◌-◌, ◌*◌, ◌≤◌, ◌<◌, ◌≡◌, le_trans, mul-le-mul_left, mul-le-mul_right, arith}
use native.Mathlib.Nat.{lt-div-mul-add, div-lt_iff_lt-mul, suc-mul, div-zero}
use Rattle.ground.specs.Rounding.{ceil_div}
use Rattle.ground.proofs.Cases.{by_le}

pub ceil-enough : (a b : ℕ) → 1 ≤ b → a ≤ ceil_div a b * b
ceil-enough a b h = omega (arith, lt-div-mul-add {a = a + (b - 1)} {b = b} h)

pub ceil-least : (a b q : ℕ) → 1 ≤ b → a ≤ q * b → ceil_div a b ≤ q
ceil-least a b q h e =
    let l : a + (b - 1) < suc q * b = omega (arith, suc-mul q b) in
    let m : ceil_div a b < suc q = (div-lt_iff_lt-mul h).1 l in
    omega arith

-- more than v times b takes more than v
pub ceil-over : (a b v : ℕ) → 1 ≤ b → v * b < a → v < ceil_div a b
ceil-over a b v h l =
    by_le (ceil_div a b) v (λ m. omega (arith, ceil-enough a b h, mul-le-mul_right b m)) (λ m. m)

-- a larger divisor gives no larger quotient
pub ceil-falls : (a b b' : ℕ) → 1 ≤ b → b ≤ b' → ceil_div a b' ≤ ceil_div a b
ceil-falls a b b' h l =
    ceil-least a b' (ceil_div a b) (omega arith) (le_trans (ceil-enough a b h) (mul-le-mul_left (ceil_div a b) l))

-- the quotient by 0 is 0
pub ceil-by-zero : (a b : ℕ) → b ≡ 0 → ceil_div a b ≡ 0
ceil-by-zero a b e = rw e (div-zero (a + (0 - 1)))

pub ceil-high : (a b : ℕ) → ceil_div a b ≤ a
ceil-high a zero = rw div-zero (omega arith)
ceil-high a (suc b) = ceil-least a (suc b) a (omega arith) (omega (arith, mul-le-mul_left {m = 1} {n = suc b} a (omega arith)))
