-- What is handed on of a text as an office gives it: a text that the strict import takes, or nothing.
-- Assumes nothing.
use Rattle.std.specs.Prelude.{ℕ, ◌<◌, Bool, List, [], ◌≡◌, eqb, length}
use Rattle.ground.specs.Choice.{pick}
use Rattle.kinds.specs.Limits.{most_tasks}
use Rattle.kinds.specs.Answer.{Handed, accepted, handed_count, Counted}
use Rattle.office.specs.Carrying.{import_handed, after_carry}

-- what the strict import of Ask 11 says of a text, with room for the most tasks
unfoldable pub strict : List ℕ → Handed ℕ
strict text = import_handed text most_tasks

-- it takes a text
abbrev pub is_taken : List ℕ → Bool
is_taken text = eqb (strict text).number 0

-- of a text and a candidate for it: the text where the strict import takes it, else the candidate where it takes that, else nothing
abbrev pub handed_on : List ℕ → List ℕ → List ℕ
handed_on text candidate = pick (is_taken text) text (pick (is_taken candidate) candidate [])

-- how many bytes are handed on, or the strict import's refusal of the text
abbrev pub tidy_handed : List ℕ → List ℕ → Handed ℕ
tidy_handed text candidate =
    pick (is_taken text) (accepted (length text)) (pick (is_taken candidate) (accepted (length candidate)) (strict text))

-- how many bytes a text may have for which there is a candidate; the programs read one more
abbrev pub longest_loose : ℕ
longest_loose = 16384

-- there is some candidate, of which nothing else is said, such that the answer and the lent output are these; a longer text has none beside itself
pub record Tidies (text old : List ℕ) (r : Counted) (new : List ℕ) : Type 0 where
  pub candidate : List ℕ
  pub long : longest_loose < length text → candidate ≡ text
  pub answer : handed_count r ≡ tidy_handed text candidate
  pub output : new ≡ after_carry (tidy_handed text candidate) (handed_on text candidate) old
