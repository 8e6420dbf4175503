-- Decimal numbers in a text, read at a place. Document 02, Ask 11: "each at most 4,294,967,295, with no leading zero except 0 itself".
-- Assumes nothing.
use Rattle.std.specs.Prelude.{ℕ, ◌≡◌, ◌+◌, ◌*◌, ◌-◌, min, Bool, true, false, not, List, [], ◌∷◌, Option, Some, None, leb, eqb, length, get_or, drop}
use Rattle.std.specs.Char.{is_ascii_digit}
use Rattle.ground.specs.Choice.{pick, both}

abbrev pub most_number : ℕ
most_number = 4294967295

-- the scanner holds a value down at the number after the most
abbrev pub limited : ℕ → ℕ
limited v = min v (most_number + 1)

-- a byte from `0` to `9`
abbrev pub is_digit : ℕ → Bool
is_digit b = is_ascii_digit b

-- every byte is a digit
abbrev pub AllDigits : List ℕ → Type 0
AllDigits [] = Unit
AllDigits (d ∷ ds) = (is_digit d ≡ true) × AllDigits ds

-- the digits at the front of a text
unfoldable pub digits : List ℕ → List ℕ
digits [] = []
digits (b ∷ s) = pick (is_digit b) (b ∷ digits s) []

-- the value of digits that follow a value
unfoldable pub value_from : ℕ → List ℕ → ℕ
value_from v [] = v
value_from v (d ∷ ds) = value_from (10 * v + (d - 48)) ds

abbrev pub digits_at : List ℕ → ℕ → List ℕ
digits_at s at = digits (drop at s)

abbrev pub value_at : List ℕ → ℕ → ℕ
value_at s at = value_from 0 (digits_at s at)

-- at least one digit, and "no leading zero except 0 itself"
unfoldable pub plain : List ℕ → Bool
plain [] = false
plain (d ∷ []) = true
plain (d ∷ (e ∷ ds)) = not (eqb d 48)

-- the place after the digits at a place
abbrev pub past_digits : List ℕ → ℕ → ℕ
past_digits s at = at + length (digits_at s at)

-- the number at a place, whatever follows it: its value and the place after its digits
unfoldable pub number_at : List ℕ → ℕ → Option (ℕ × ℕ)
number_at s at = pick (both (plain (digits_at s at)) (leb (value_at s at) most_number)) (Some (value_at s at, past_digits s at)) None

-- the number at a place, ended by this byte: its value and the place after that byte
abbrev pub ended_by : List ℕ → ℕ → Option (ℕ × ℕ) → Option (ℕ × ℕ)
ended_by s end (Some (v, next)) = pick (eqb (get_or s next 0) end) (Some (v, next + 1)) None
ended_by s end None = None

unfoldable pub numeral_at : List ℕ → ℕ → ℕ → Option (ℕ × ℕ)
numeral_at s at end = ended_by s end (number_at s at)

-- the number whose text is the whole text, and its length
abbrev pub ended_there : List ℕ → Option (ℕ × ℕ) → Option (ℕ × ℕ)
ended_there s (Some (v, next)) = pick (eqb next (length s)) (Some (v, next)) None
ended_there s None = None

unfoldable pub numeral_in : List ℕ → Option (ℕ × ℕ)
numeral_in s = ended_there s (number_at s 0)
