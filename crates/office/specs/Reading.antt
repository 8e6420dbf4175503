-- What an import reads from a text, from the left, line by line.
-- Assumes nothing.
use Rattle.std.specs.Prelude.{ℕ, zero, suc, List, [], ◌∷◌, ◌++◌, Option, Some, None, Result, Ok, Err, ltb, length}
use Rattle.ground.specs.Choice.{pick}
use Rattle.kinds.specs.declared.Task.{Task}
use Rattle.kinds.specs.declared.Refusal.{Refusal}
use Rattle.kinds.specs.declared.Refusal.TheVariants.{TooManyTasks, BadLine}
use Rattle.kinds.specs.Limits.{most_tasks}
use Rattle.kinds.specs.Task.{task}
use Rattle.numeral.specs.Scan.{numeral_at}
use Rattle.office.specs.Text.{comma, newline}

-- a line's task and the place after it; none where the line is bad
abbrev pub Line : Type 0
Line = Option (Task × ℕ)

-- a number and the place after it go on, or the line is bad
abbrev pub and_then : Option (ℕ × ℕ) → (ℕ → ℕ → Line) → Line
and_then (Some (v, next)) f = f v next
and_then None f = None

-- the line at a place, and the place after it; a line that is not finished is bad
unfoldable pub line_at : List ℕ → ℕ → Line
line_at s at =
    and_then (numeral_at s at comma) (λ c at-tmin.
    and_then (numeral_at s at-tmin comma) (λ tmin at-tmax.
    and_then (numeral_at s at-tmax comma) (λ tmax at-e.
    and_then (numeral_at s at-e newline) (λ e next. Some (task c tmin tmax e, next)))))

-- the rows of a table, or why there are none
abbrev pub Reading : Type 0
Reading = Result (List Task) Refusal

abbrev pub after_line : Line → (Task → ℕ → Reading) → Reading → Reading
after_line (Some (t, next)) f bad = f t next
after_line None f bad = bad

-- from a place on, with so many lines still allowed, after these rows: "The first bad line, from 0, is refused by 16; bytes after a good
-- line 31, whatever they are, are refused by 3 at 32."
unfoldable pub read_from : ℕ → List Task → List ℕ → ℕ → Reading
read_from zero rows s at = pick (ltb at (length s)) (Err (TooManyTasks most_tasks)) (Ok rows)
read_from (suc more) rows s at =
    pick (ltb at (length s))
    (after_line (line_at s at) (λ t next. read_from more (rows ++ (t ∷ [])) s next) (Err (BadLine (length rows))))
    (Ok rows)

-- "An empty text is an empty table."
unfoldable pub read_text : List ℕ → Reading
read_text s = read_from most_tasks [] s 0

abbrev pub rows_of : Reading → List Task
rows_of (Ok rows) = rows
rows_of (Err refusal) = []
