-- The first number at which a test holds.
-- Assumes nothing.
use Rattle.std.specs.Prelude.{ℕ, zero, suc, ◌≤◌, ◌<◌, Bool, true, false, ◌≡◌}

-- of `count` numbers from `from` on; the number after them where there is none
unfoldable pub first_from : (ℕ → Bool) → ℕ → ℕ → ℕ
first_from test from zero = from
first_from test from (suc count) = elim (test from) [ true ↦ from | false ↦ first_from test (suc from) count ]

-- of the numbers below n; n where there is none
unfoldable pub first_below : (ℕ → Bool) → ℕ → ℕ
first_below test n = first_from test 0 n

-- the same in words
pub record IsFirst (test : ℕ → Bool) (n r : ℕ) : Type 0 where
  pub last : r ≤ n
  pub there : r < n → test r ≡ true
  pub before : (j : ℕ) → j < r → test j ≡ false
