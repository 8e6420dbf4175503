-- What the program writes for the bytes that it reads: `accepted` and a newline, or the line of the refusal.
-- Assumes nothing.
use Rattle.std.specs.Prelude.{ℕ, List, [], ◌∷◌}
use Rattle.refusal_line.specs.Line.{or_line}
use Rattle.filled_sheet.specs.Checked.{checked}

-- the word `accepted` and a newline
abbrev pub accepted_line : List ℕ
accepted_line = 97 ∷ 99 ∷ 99 ∷ 101 ∷ 112 ∷ 116 ∷ 101 ∷ 100 ∷ 10 ∷ []

unfoldable pub told : List ℕ → List ℕ
told input = or_line (checked input) (λ v. accepted_line)
