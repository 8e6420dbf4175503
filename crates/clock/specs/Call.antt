-- A call with the present tick: which task is due, which is handed back, and the clock after it, for every clock and tick.
-- Assumes nothing.
use Rattle.std.specs.Prelude.{◌≡◌, ℕ, ◌+◌, ◌%◌, ◌<◌, ◌≤◌, List, [], ◌∷◌, nat_lt, slice_index, slice_set, Option, option_to_list, Result, Ok, Err}
use Rattle.ground.specs.Choice.{pick}
use Rattle.kinds.specs.declared.Refusal.{Refusal}
use Rattle.kinds.specs.declared.Refusal.TheVariants.{TooManyTasks}
use Rattle.kinds.specs.Answer.{Handed, accepted, refused}
use Rattle.kinds.specs.Limits.{most_tasks}
use Rattle.clock.specs.declared.Clock.{Clock}
use Rattle.clock.specs.Ticks.{turn, half_turn, behind, late, latest}

-- task i: its next release, its period, and how late it is at the present tick
abbrev pub next_of : Clock → ℕ → ℕ
next_of c i = slice_index c.next i

abbrev pub period_of : Clock → ℕ → ℕ
period_of c i = slice_index c.periods i

abbrev pub late_at : Clock → ℕ → ℕ → ℕ
late_at c present i = late present (next_of c i)

-- Ask 12: "counts a task as due when present minus next, wrapping at 32 bits, is below 2,147,483,648"
pub record Due (c : Clock) (present i : ℕ) : Type 0 where
  pub there : i < c.n
  pub below : behind present (next_of c i) < half_turn

-- Ask 12: "the due task with the greatest such difference, lowest record on a tie"
pub record HandsBack (c : Clock) (present i : ℕ) : Type 0 where
  pub due : Due c present i
  pub greatest : (j : ℕ) → Due c present j → behind present (next_of c j) ≤ behind present (next_of c i)
  pub lowest : (j : ℕ) → j < i → Due c present j → behind present (next_of c j) < behind present (next_of c i)

-- what a call hands back: the due task, alone in a list, or none
unfoldable pub released : Clock → ℕ → Handed (List ℕ)
released c present =
    pick (nat_lt most_tasks c.n) (refused [] (TooManyTasks c.n))
    (accepted (latest (late_at c present) c.n))

-- Ask 12: "moves that task's next release on by its period, wrapping"
unfoldable pub moved_on : Clock → ℕ → Clock
moved_on c i = record { periods = c.periods; next = slice_set c.next i ((next_of c i + period_of c i) % turn); n = c.n }

-- Ask 12: "with none due it says so and changes nothing"
abbrev pub afterwards : Clock → List ℕ → Clock
afterwards c [] = c
afterwards c (i ∷ rest) = moved_on c i

-- the clock after a call
unfoldable pub after_call : Clock → ℕ → Clock
after_call c present = afterwards c (released c present).value

-- an answer: the task that is handed back, none where none is due, or the refusal
abbrev pub Release : Type 0
Release = Result (Option ℕ) Refusal

-- an answer in document 01's numbers
abbrev pub handed_release : Release → Handed (List ℕ)
handed_release (Ok task) = accepted (option_to_list task)
handed_release (Err r) = refused [] r

-- the promise of a call: what it answers, and the clock that it leaves
pub record CallIs (c : Clock) (present : ℕ) (r : Release) (left : Clock) : Type 0 where
  pub answers : handed_release r ≡ released c present
  pub leaves : left ≡ after_call c present
