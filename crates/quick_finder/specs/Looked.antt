-- Demand 3, whole: demand 2's outcome, and the looks, for every input.
-- Assumes nothing.
use Rattle.kinds.specs.Answer.{Verdict}
use Rattle.std.specs.Prelude.{ℕ, ◌≤◌, min, false, List, ◌≡◌, length, Ok, Err}
use Rattle.kinds.specs.declared.Task.{Task}
use Rattle.kinds.specs.declared.Settings.{Settings}
use Rattle.policy.specs.Under.{looks_under, most_looks}
use Rattle.admission.specs.Admission.{admission}
use Rattle.outcome.specs.Plan.{outcome, Meets}
use Rattle.quick_finder.specs.declared.Looked.{Looked}

-- "Refusals before 7 report 0."
abbrev pub looks_after : Verdict → ℕ → ℕ
looks_after (Err r) looks = 0
looks_after (Ok _) looks = looks

-- the looks of a call on the first n of some records
unfoldable pub looks : Settings → List Task → ℕ → ℕ → ℕ
looks s rows n room = looks_after (admission false s rows n room) (looks_under s rows n)

-- the whole promise: demand 2's outcome where policy 4 is not served, the looks, and their bound, n + 1 under edition 1 and 20 under edition 2
pub record MeetsLooked (s : Settings) (rows : List Task) (n : ℕ) (old_periods old_processors : List ℕ) (r : Looked) (periods processors : List ℕ) : Type 0 where
  pub meets : Meets (outcome false s rows n old_periods old_processors) r.answer periods processors
  pub count : r.looks ≡ looks s rows n (min (length old_periods) (length old_processors))
  pub few : r.looks ≤ most_looks s n
