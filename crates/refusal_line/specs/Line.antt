-- The line that a program writes where it refuses.
-- Assumes nothing.
use Rattle.std.specs.Prelude.{ℕ, ◌+◌, List, [], ◌∷◌, ◌++◌, eqb, length}
use Rattle.ground.specs.Choice.{pick}
use Rattle.kinds.specs.Answer.{Handed}
use Rattle.numeral.specs.Decimal.{decimal}

-- the words `refused ` and ` at `, and a newline
abbrev pub refused_word : List ℕ
refused_word = 114 ∷ 101 ∷ 102 ∷ 117 ∷ 115 ∷ 101 ∷ 100 ∷ 32 ∷ []

abbrev pub at_word : List ℕ
at_word = 32 ∷ 97 ∷ 116 ∷ 32 ∷ []

abbrev pub newline : List ℕ
newline = 10 ∷ []

-- "`refused N at P` and a newline"
unfoldable pub refusal_line : ℕ → ℕ → List ℕ
refusal_line number place = refused_word ++ (decimal number ++ (at_word ++ (decimal place ++ newline)))

-- the longest such line: a number has at most 5 digits, a place at most 20
abbrev pub longest_refusal_line : ℕ
longest_refusal_line = length refused_word + 5 + length at_word + 20 + length newline

-- "On refusal it writes" the line, else what comes of the value
abbrev pub or_line : {A : Type 0} → Handed A → (A → List ℕ) → List ℕ
or_line h accepts = pick (eqb h.number 0) (accepts h.value) (refusal_line h.number h.place)
