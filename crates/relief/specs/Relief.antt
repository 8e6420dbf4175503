-- What would relieve a table: the least step as it stands, with one processor more, and with one task fewer, each by demand 2's own definition.
-- Assumes nothing.
use Rattle.std.specs.Prelude.{ℕ, ◌+◌, ◌-◌, true, List, ◌++◌, ◌≡◌, eqb, length, drop, Result, Ok, Err}
use Rattle.ground.specs.Choice.{pick}
use Rattle.ground.specs.Folds.{list_to}
use Rattle.kinds.specs.declared.Task.{Task}
use Rattle.kinds.specs.declared.Settings.{Settings}
use Rattle.kinds.specs.declared.Refusal.{Refusal}
use Rattle.kinds.specs.declared.Refusal.TheVariants.{NoStepPasses}
use Rattle.kinds.specs.Answer.{Handed, NumberAndPlace, accepted, refused, handed_verdict, Answer, Verdict}
use Rattle.kinds.specs.Refusal.{number_of}
use Rattle.kinds.specs.Settings.{settings}
use Rattle.admission.specs.Admission.{admission}
use Rattle.outcome.specs.Plan.{found}
use Rattle.keep.specs.Keep.{left_rows}
use Rattle.relief.specs.declared.Relief.{Relief}

-- a least step told as a number: 0 where there is none, else the step + 1
abbrev pub told_step : Handed ℕ → ℕ
told_step h = pick (eqb h.number 0) (h.value + 1) 0

-- the step that the plain finder grants the first n of some records, with room for each
unfoldable pub least_told : Settings → List Task → ℕ → ℕ
least_told s rows n = told_step (found true s rows n n)

-- the same station with one processor more
abbrev pub one_more : Settings → Settings
one_more s = settings s.policy (s.m + 1) s.swap s.notch s.edition

-- with one processor more; settings that refusal 2 is given for have no step: more than 16, and under policy 5 more than one
abbrev pub least_with : Settings → List Task → ℕ → ℕ
least_with s rows n = least_told (one_more s) rows n

-- without task i: Ask 6's table that it has left
abbrev pub least_without : Settings → List Task → ℕ → ℕ → ℕ
least_without s rows n i = least_told s (left_rows rows n i) (n - 1)

-- whether a finder's answer comes of an admitted table: a step, or that none passes
abbrev pub admitted_by : Answer → Verdict
admitted_by (Ok step) = (Ok tt)
admitted_by (Err r) = pick (eqb (number_of r) (number_of NoStepPasses)) (Ok tt) (Err r)

-- number and place, the least step as the table stands and with one processor more, and the lent output as the call leaves it
pub record Relieved : Type 0 where
  pub handed : NumberAndPlace
  pub least : ℕ
  pub more : ℕ
  pub without : List ℕ

-- an admitted call tells both and writes the rest; a refusal tells nothing, and "lent buffers keep their bytes" in it
abbrev pub told_with : Verdict → ℕ → ℕ → List ℕ → ℕ → List ℕ → Relieved
told_with (Ok _) least more front n old = record { handed = accepted tt; least = least; more = more; without = front ++ drop n old }
told_with (Err r) least more front n old = record { handed = refused tt r; least = 0; more = 0; without = old }

-- the plain finder's admission, refusals 1 to 6, and where it admits the least steps
unfoldable pub relieved : Settings → List Task → ℕ → List ℕ → Relieved
relieved s rows n old =
    told_with (admission true s rows n (length old)) (least_told s rows n) (least_with s rows n) (list_to (least_without s rows n) n) n old

-- what a call answers: what is told, or the refusal, with which nothing is
abbrev pub Answered : Type 0
Answered = Result Relief Refusal

abbrev pub verdict_of : Answered → Verdict
verdict_of (Ok told) = Ok tt
verdict_of (Err r) = Err r

abbrev pub told_of : Answered → Relief
told_of (Ok told) = told
told_of (Err r) = record { least = 0; more = 0 }

-- an answer, what is told with it, and the output at exit are those
pub record MeetsRelief (o : Relieved) (r : Answered) (without : List ℕ) : Type 0 where
  pub answers : handed_verdict (verdict_of r) ≡ o.handed
  pub least-told : (told_of r).least ≡ o.least
  pub more-told : (told_of r).more ≡ o.more
  pub leaves : without ≡ o.without
