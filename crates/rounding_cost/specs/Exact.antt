-- Fractions as two whole numbers, a top and a bottom, which are never divided; and exact sums of them.
-- Assumes nothing.
use Rattle.std.specs.Prelude.{ℕ, zero, suc, ◌+◌, ◌*◌, Bool, leb}

pub record Fraction : Type 0 where
  pub top : ℕ
  pub bottom : ℕ

abbrev pub out_of : ℕ → ℕ → Fraction
out_of a b = record { top = a; bottom = b }

-- a / b + c / d = (a · d + c · b) / (b · d)
abbrev pub plus : Fraction → Fraction → Fraction
plus x y = out_of (x.top * y.bottom + y.top * x.bottom) (x.bottom * y.bottom)

-- the exact sum of n fractions, by number
unfoldable pub exact_sum : (ℕ → Fraction) → ℕ → Fraction
exact_sum f zero = out_of 0 1
exact_sum f (suc n) = plus (exact_sum f n) (f n)

-- a times the fraction is at most b
abbrev pub times_at_most : ℕ → Fraction → ℕ → Bool
times_at_most a x b = leb (a * x.top) (b * x.bottom)
