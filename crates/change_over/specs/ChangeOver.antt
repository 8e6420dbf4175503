-- Document 01, "Change-over": which part of which lent sheet is the answer.
-- Assumes nothing.
use Rattle.std.specs.Prelude.{ℕ, ◌+◌, ◌*◌, Bool, Option, Some, None, List, ◌≡◌, eqb, take, drop}
use Rattle.ground.specs.Choice.{pick, both}
use Rattle.plain_finder.specs.Asked.{asked}
use Rattle.sheet.specs.Sections.{task_size, records_place}
use Rattle.sheet.specs.Reading.{read_sheet}
use Rattle.change_over.specs.declared.Which.{Which}
use Rattle.change_over.specs.declared.Which.TheVariants.{Standing, Proposed}
use Rattle.change_over.specs.declared.Part.{Part}

-- "if it reads and the plain finder accepts it": number 0 from both
unfoldable pub acceptable : List ℕ → Bool
acceptable s = both (eqb (read_sheet s).number 0) (eqb (asked (read_sheet s).value).number 0)

-- how many settings and tasks an acceptable sheet has
unfoldable pub section_of : List ℕ → Option (ℕ × ℕ)
section_of s = pick (acceptable s) (Some ((read_sheet s).value.count, (read_sheet s).value.table.n)) None

-- "the task section (records only)" of an acceptable sheet, else another part
abbrev pub tasks_part : Which → ℕ → ℕ → Part
tasks_part which settings n = record { which = which; from = records_place settings; size = task_size * n }

abbrev pub tasks_or : Which → Option (ℕ × ℕ) → Part → Part
tasks_or which (Some section) other = tasks_part which section.0 section.1
tasks_or which None other = other

-- "the empty front of the standing sheet"
abbrev pub empty_front : Part
empty_front = record { which = Standing; from = 0; size = 0 }

-- "of the proposed one if it reads and the plain finder accepts it; otherwise that of the standing one under the same condition; otherwise
-- the empty front of the standing sheet"
unfoldable pub change_over : List ℕ → List ℕ → Part
change_over standing proposed = tasks_or Proposed (section_of proposed) (tasks_or Standing (section_of standing) empty_front)

abbrev pub one_of : {A : Type 0} → Which → A → A → A
one_of Standing standing proposed = standing
one_of Proposed standing proposed = proposed

-- "It is a part of one of the two lent sheets, not a copy": its bytes are that sheet's, and it stands where they stand
pub record IsPart (part : Part) (standing proposed : List ℕ) (standing_at proposed_at : ℕ × ℕ) (answer : List ℕ) (answer_at : ℕ × ℕ) : Type 0 where
  pub bytes : answer ≡ take part.size (drop part.from (one_of part.which standing proposed))
  pub place : answer_at ≡ ((one_of part.which standing_at proposed_at).0, part.from + (one_of part.which standing_at proposed_at).1)
