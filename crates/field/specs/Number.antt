-- Document 01, "The station sheet": "Little-endian." A number of any size, at a place of a list of bytes and as bytes.
-- Assumes nothing.
use Rattle.std.specs.Prelude.{ℕ, zero, suc, ◌+◌, ◌*◌, ◌/◌, ◌%◌, ◌<◌, List, [], ◌∷◌, get_or}

-- a list of bytes
abbrev pub Bytes : List ℕ → Type 0
Bytes s = (i : ℕ) → get_or s i 0 < 256

-- the number whose bytes, lowest first, stand from a place on
unfoldable pub number_at : ℕ → List ℕ → ℕ → ℕ
number_at zero s at = 0
number_at (suc size) s at = get_or s at 0 + 256 * number_at size s (at + 1)

abbrev pub u16_at : List ℕ → ℕ → ℕ
u16_at = number_at 2

abbrev pub u32_at : List ℕ → ℕ → ℕ
u32_at = number_at 4

-- the bytes of a number, lowest first
unfoldable pub bytes_of : ℕ → ℕ → List ℕ
bytes_of zero v = []
bytes_of (suc size) v = v % 256 ∷ bytes_of size (v / 256)

-- how many numbers a field of so many bytes can hold
abbrev pub limit : ℕ → ℕ
limit zero = 1
limit (suc size) = limit size * 256
