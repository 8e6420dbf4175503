-- Ask 11: the checks of an import and of an export, with the sentence of each number, in their order; where each line of a text starts.
-- Assumes nothing.
use Rattle.std.specs.Prelude.{ℕ, zero, suc, Bool, true, false, List, [], ◌∷◌, Some, None, ltb, length}
use Rattle.ground.specs.Choice.{pick, both}
use Rattle.ground.specs.First.{first_below}
use Rattle.kinds.specs.declared.Task.{Task}
use Rattle.kinds.specs.declared.Refusal.TheVariants.{TooManyTasks, OutputTooShort, BadLine}
use Rattle.kinds.specs.Limits.{most_tasks}
use Rattle.kinds.specs.Chain.{Check, ◌when◌}
use Rattle.office.specs.Text.{text_to}
use Rattle.office.specs.Reading.{Line, line_at, read_text, rows_of}

-- the place after a line; nothing is read after a bad one
abbrev pub after_it : Line → ℕ → ℕ
after_it (Some (t, next)) end = next
after_it None end = end

-- where line i of a text starts; the text's end or a place past it where there is no such line
unfoldable pub line_start : List ℕ → ℕ → ℕ
line_start s zero = 0
line_start s (suc i) = pick (ltb (line_start s i) (length s)) (after_it (line_at s (line_start s i)) (length s)) (line_start s i)

-- a line that is bad
abbrev pub is_bad : Line → Bool
is_bad (Some (t, next)) = false
is_bad None = true

-- line i is there and is bad
abbrev pub is_bad_line : List ℕ → ℕ → Bool
is_bad_line s i = both (ltb (line_start s i) (length s)) (is_bad (line_at s (line_start s i)))

-- "The first bad line, from 0", of those that a table has room for; 32 where there is none
unfoldable pub first_bad_line : List ℕ → ℕ
first_bad_line s = first_below (is_bad_line s) most_tasks

-- "The first bad line, from 0, is refused by 16; bytes after a good line 31, whatever they are, are refused by 3 at 32"; "Short outputs are refused
-- by 5, last."
abbrev pub import_chain : List ℕ → ℕ → List Check
import_chain text room =
    let rows = length (rows_of (read_text text)) in
    BadLine (first_bad_line text) when ltb (first_bad_line text) most_tasks
    ∷ TooManyTasks most_tasks when ltb (line_start text most_tasks) (length text)
    ∷ OutputTooShort rows when ltb room rows
    ∷ []

-- "Export refuses more than 32 tasks by 3. Short outputs are refused by 5, last."
abbrev pub export_chain : List Task → ℕ → ℕ → List Check
export_chain rows n room =
    let bytes = length (text_to rows n) in
    TooManyTasks n when ltb most_tasks n
    ∷ OutputTooShort bytes when ltb room bytes
    ∷ []
