-- The release clock in numbers that cross to C.
-- Assumes nothing.
use Rattle.std.specs.Prelude.{ℕ, ◌≡◌, length, get_or}
use Rattle.kinds.specs.Answer.{Handed}
use Rattle.clock.specs.declared.Clock.{Clock}
use Rattle.clock.specs.Call.{released, after_call}
use Rattle.c_clock.specs.declared.ToldStart.{ToldStart}
use Rattle.c_clock.specs.declared.ToldCall.{ToldCall}

abbrev pub told_start : ToldStart → Handed Clock
told_start r = record { number = r.number; place = r.place; value = r.clock }

-- each field of what a call tells
pub record ToldCallIs (c : Clock) (present : ℕ) (r : ToldCall) : Type 0 where
  pub number_is : r.number ≡ (released c present).number
  pub place_is : r.place ≡ (released c present).place
  -- how many tasks are handed back, and the first of them
  pub due-is : r.due ≡ length (released c present).value
  pub task-is : r.task ≡ get_or (released c present).value 0 0
  pub leaves : r.clock ≡ after_call c present
