-- A difference of two small numbers as a signed 64-bit number.
-- Assumes nothing.
use Rattle.ground.proofs.Kit.{ℕ, zero, suc, ◌-◌, ◌^◌, ◌≤◌, ◌<◌, ◌≡◌, refl, ap, arith, ltb, lt-ltb, le-ltb}
use native.Mathlib.Nat.{add-zero}
use lib.IntN.{pos, negsuc, ◌-ℤ◌, sub_ℕ}
use lib.Signed.{mag}
use mir.Syntax.{w64}
use mir.Val.{SFits, to_z}
use mir.Facts.{to_z_pos}
use borrow.Author.Rules.{sfits_of}
use Rattle.ground.proofs.Cases.{by_bool}

minus : (a b : ℕ) → pos a -ℤ pos b ≡ sub_ℕ a b
minus a zero = rw (le-ltb a 0 (omega arith), add-zero a) (ap pos (omega arith))
minus a (suc n) = refl

-- a difference is negative exactly where the second number is greater
pub sub-le : (a b : ℕ) → b ≤ a → sub_ℕ a b ≡ pos (a - b)
sub-le a b h = rw (le-ltb a b h)

pub sub-lt : (a b : ℕ) → a < b → sub_ℕ a b ≡ negsuc (b - suc a)
sub-lt a b h = rw (lt-ltb a b h)

module _ (a b : ℕ) (h : a ≤ 1000000000) (g : b ≤ 1000000000) where
  small : mag (sub_ℕ a b) < 2 ^ 63
  small = by_bool (ltb a b) (λ e. rw e (omega arith)) (λ e. rw e (omega arith))

  pub difference-is : to_z w64 a -ℤ to_z w64 b ≡ sub_ℕ a b
  difference-is = rw (to_z_pos w64 {n = a} (omega arith), to_z_pos w64 {n = b} (omega arith)) (minus a b)

  pub difference-fits : SFits w64 (to_z w64 a -ℤ to_z w64 b)
  difference-fits = rw difference-is (sfits_of small)
