-- The decimal digits of a number, as text.
-- Assumes nothing.
use Rattle.std.specs.Prelude.{ℕ, zero, suc, ◌+◌, ◌/◌, ◌%◌, List, [], ◌∷◌, ◌++◌, ltb}
use Rattle.ground.specs.Choice.{pick}

-- the digit of a number's last place
abbrev pub last_digit : ℕ → List ℕ
last_digit n = (48 + n % 10) ∷ []

-- with at most so many digits before the last
unfoldable pub digits_in : ℕ → ℕ → List ℕ
digits_in zero n = last_digit n
digits_in (suc more) n = pick (ltb n 10) (last_digit n) (digits_in more (n / 10) ++ last_digit n)

-- no number has more digits than it counts
unfoldable pub decimal : ℕ → List ℕ
decimal n = digits_in n n
