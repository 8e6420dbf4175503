-- The first entries of a list, laid over what stood there.
-- Assumes nothing.
use Rattle.std.specs.Prelude.{ℕ, List, [], ◌∷◌, replicate}
use Rattle.ground.specs.Folds.{list_to}

-- xs in the first places, and in the others what stood there; what finds no place is left out
abbrev pub laid : {A : Type 0} → List A → List A → List A
laid [] rest = rest
laid (x ∷ xs) [] = []
laid (x ∷ xs) (y ∷ rest) = x ∷ laid xs rest

-- a list whose first n entries are f 0, f 1, .., laid over those that stood there
unfoldable pub over : {A : Type 0} → List A → (ℕ → A) → ℕ → List A
over rest f n = laid (list_to f n) rest

-- a list brought to a length: the first k of xs, and `none` in each place that is left
abbrev pub padded : {A : Type 0} → A → ℕ → List A → List A
padded none k xs = laid xs (replicate k none)

-- n rows, f 0, f 1, .., and `none` in each place that is left, k in all
abbrev pub padded_to : {A : Type 0} → A → ℕ → (ℕ → A) → ℕ → List A
padded_to none k f n = over (replicate k none) f n
