-- What the functions of this crate hand each other.
-- Assumes nothing.
use Rattle.std.specs.Prelude.{ℕ, List, ◌≡◌, length}
use Rattle.ground.specs.Choice.{pick}
use Rattle.kinds.specs.Answer.{Handed, accepted, handed_count, Counted}
use Rattle.office.specs.Carrying.{after_carry}
use Rattle.tidy.specs.Tidied.{strict, is_taken}

-- how many bytes a text has that the strict import takes, or the refusal of it
abbrev pub only_taken : List ℕ → Handed ℕ
only_taken s = pick (is_taken s) (accepted (length s)) (strict s)

-- such a text is put at the front, and of another nothing is written
pub record HandsOn (s old : List ℕ) (r : Counted) (new : List ℕ) : Type 0 where
  pub answer : handed_count r ≡ only_taken s
  pub output : new ≡ after_carry (only_taken s) s old
