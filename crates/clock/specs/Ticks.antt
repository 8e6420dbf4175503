-- Ticks of 32 bits: how far a task is behind, when it is due, and which of several tasks is the latest.
-- Assumes nothing.
use Rattle.std.specs.Prelude.{ℕ, suc, ◌+◌, ◌-◌, ◌%◌, List, [], ◌∷◌, ◌==◌, nat_eq, nat_lt}
use Rattle.ground.specs.Choice.{pick}
use Rattle.ground.specs.First.{first_below}
use Rattle.ground.specs.Folds.{max_to}

-- what 32 bits count to, and half of it. `clock::limits` shows that the code has the same half.
abbrev pub turn : ℕ
turn = 4294967296

abbrev pub half_turn : ℕ
half_turn = 2147483648

-- Ask 12: "present minus next, wrapping at 32 bits"
unfoldable pub behind : ℕ → ℕ → ℕ
behind present next = (present + (turn - next)) % turn

-- 0 where a task is not due, "below 2,147,483,648", else one more than the ticks that it is behind
unfoldable pub late : ℕ → ℕ → ℕ
late present next = pick (nat_lt (behind present next) half_turn) (suc (behind present next)) 0

-- of n tasks the one that is most late, the lowest on a tie, alone in a list; none where none is late
unfoldable pub latest : (ℕ → ℕ) → ℕ → List ℕ
latest lateness n = pick (max_to lateness n == 0) [] (first_below (λ i. nat_eq (lateness i) (max_to lateness n)) n ∷ [])
