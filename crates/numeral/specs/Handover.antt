-- What functions hand each other: the length of a text, and a run of digits.
-- Assumes nothing.
use Rattle.std.specs.Prelude.{ℕ, ◌≤◌, List, ◌≡◌, length}
use Rattle.numeral.specs.Scan.{limited, digits, value_from}

-- the length of a text, and the most that it can be
pub record Sized (text : List ℕ) (most r : ℕ) : Type 0 where
  pub is : r ≡ length text
  pub few : r ≤ most

-- the value of the digits that begin a text, held down, and how many they are
abbrev pub RunIs : List ℕ → ℕ × ℕ → Type 0
RunIs s r = (r.0 ≡ limited (value_from 0 (digits s))) × (r.1 ≡ length (digits s)) × (r.1 ≤ length s)
