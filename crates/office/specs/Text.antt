-- Document 02, Ask 11: the text of a table. "`6,10,20,1000` and the newline is the whole text for one such task."
-- Assumes nothing.
use Rattle.std.specs.Prelude.{ℕ, ◌+◌, ◌*◌, ◌≤◌, List, [], ◌∷◌, ◌++◌, length}
use Rattle.ground.specs.Folds.{join_to}
use Rattle.kinds.specs.declared.Task.{Task}
use Rattle.kinds.specs.Limits.{most_tasks}
use Rattle.kinds.specs.Task.{at}
use Rattle.numeral.specs.Decimal.{decimal}
use Rattle.numeral.specs.Scan.{most_number}

abbrev pub comma : ℕ
comma = 44

-- "one byte 0x0A"
abbrev pub newline : ℕ
newline = 10

-- a number and the byte that ends it
unfoldable pub number_then : ℕ → ℕ → List ℕ
number_then v end = decimal v ++ (end ∷ [])

-- "four decimal numbers (C, Tmin, Tmax, E) … commas between, and each line ended by one byte 0x0A"
unfoldable pub line_of : Task → List ℕ
line_of t =
    number_then t.c comma
    ++ (number_then t.tmin comma ++ (number_then t.tmax comma ++ number_then t.e newline))

-- the line of row i
abbrev pub row_line : List Task → ℕ → List ℕ
row_line rows i = line_of (at rows i)

-- the lines of the first n rows, in order
abbrev pub text_to : List Task → ℕ → List ℕ
text_to rows n = join_to (row_line rows) n

abbrev pub text_of : List Task → List ℕ
text_of rows = text_to rows (length rows)

-- each number of a task is one that a text may hold
pub record Fits (t : Task) : Type 0 where
  pub c : t.c ≤ most_number
  pub tmin : t.tmin ≤ most_number
  pub tmax : t.tmax ≤ most_number
  pub e : t.e ≤ most_number

abbrev pub AllFit : List Task → Type 0
AllFit [] = Unit
AllFit (t ∷ ts) = Fits t × AllFit ts

-- the longest line: four numbers of ten digits, three commas and a newline
abbrev pub most_digits : ℕ
most_digits = 10

abbrev pub longest_line : ℕ
longest_line = 4 * most_digits + 3 + 1

-- the longest text: such a line for each of the most tasks; `office::limits` shows that the code has the same
abbrev pub longest_text : ℕ
longest_text = most_tasks * longest_line
