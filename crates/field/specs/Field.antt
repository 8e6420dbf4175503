-- A field that is due at a place of a sheet: there, or not.
-- Assumes nothing.
use Rattle.std.specs.Prelude.{ℕ, ◌+◌, ◌≤◌, List, Option, Some, None, ◌≡◌, leb, length}
use Rattle.ground.specs.Choice.{pick}
use Rattle.field.specs.Number.{number_at, u16_at, u32_at}

-- a field of so many bytes: its value and the place after it; it is missing where "the sheet ends before or inside" it
unfoldable pub field_by : {A : Type 0} → ℕ → (List ℕ → ℕ → A) → List ℕ → ℕ → Option (A × ℕ)
field_by size value_at s at = pick (leb (at + size) (length s)) (Some (value_at s at, at + size)) None

-- the value that a number of so many bytes is which stands at the front
unfoldable pub front_by : {A : Type 0} → ℕ → (ℕ → A) → List ℕ → Option A
front_by size of s = pick (leb size (length s)) (Some (of (number_at size s 0))) None

abbrev pub field16 : List ℕ → ℕ → Option (ℕ × ℕ)
field16 s at = field_by 2 u16_at s at

abbrev pub field32 : List ℕ → ℕ → Option (ℕ × ℕ)
field32 s at = field_by 4 u32_at s at

-- a field that was read lies within; its value and the place after it are those
pub record Got {A : Type 0} (s : List ℕ) (at size : ℕ) (value_at : List ℕ → ℕ → A) (v : A) (next : ℕ) : Type 0 where
  pub within : at + size ≤ length s
  pub is : v ≡ value_at s at
  pub next-is : next ≡ at + size
