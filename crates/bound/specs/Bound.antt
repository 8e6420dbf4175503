-- Document 02, "One-core rate monotonic": Liu and Layland's bound for n tasks, rounded down to whole parts.
-- Assumes nothing.
use Rattle.std.specs.Prelude.{ℕ, zero, suc, ◌+◌, ◌*◌, ◌^◌, ◌≤◌, ◌≡◌, List, [], ◌∷◌, get_or}
use Rattle.kinds.specs.Limits.{scale}

-- "(n × S + b) to the power n at most 2 × (n × S) to the power n"
abbrev pub FitsBound : ℕ → ℕ → Type 0
FitsBound n b = (n * scale + b) ^ n ≤ 2 * (n * scale) ^ n

-- "the largest whole b" that is within
pub record LargestWithin (n b : ℕ) : Type 0 where
  pub within : FitsBound n b
  pub none-larger : (a : ℕ) → FitsBound n a → a ≤ b

-- b is the bound for n tasks: "for n = 0 it is 0"
abbrev pub IsBound : ℕ → ℕ → Type 0
IsBound zero b = b ≡ 0
IsBound (suc n) b = LargestWithin (suc n) b

-- the bounds for 0, 1, 2, … tasks, up to the most
unfoldable pub bounds : List ℕ
bounds =
    0 ∷
    1000000 ∷ 828427 ∷ 779763 ∷ 756828 ∷ 743491 ∷ 734772 ∷ 728626 ∷ 724061 ∷
    720537 ∷ 717734 ∷ 715451 ∷ 713557 ∷ 711958 ∷ 710592 ∷ 709411 ∷ 708380 ∷
    707472 ∷ 706666 ∷ 705945 ∷ 705298 ∷ 704713 ∷ 704182 ∷ 703697 ∷ 703253 ∷
    702845 ∷ 702469 ∷ 702121 ∷ 701797 ∷ 701497 ∷ 701216 ∷ 700954 ∷ 700708 ∷ []

-- the bound for n tasks; where there are more than the most, 0 stands for it
unfoldable pub bound_of : ℕ → ℕ
bound_of n = get_or bounds n 0
