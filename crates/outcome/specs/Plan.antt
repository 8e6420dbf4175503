-- Demand 2, whole: what a finder hands back and what it leaves in the two lent outputs, for every input.
-- Assumes nothing.
use Rattle.ground.specs.Least.{Step}
use Rattle.std.specs.Prelude.{ℕ, ◌+◌, min, Bool, List, ◌≡◌, length, Ok, Err, Some, None}
use Rattle.ground.specs.Choice.{pick}
use Rattle.ground.specs.Folds.{list_to}
use Rattle.kinds.specs.declared.Task.{Task}
use Rattle.kinds.specs.declared.Policy.{Policy}
use Rattle.kinds.specs.declared.Settings.{Settings}
use Rattle.kinds.specs.declared.Refusal.TheVariants.{NoStepPasses}
use Rattle.kinds.specs.Answer.{Handed, accepted, refused, after, handed, Answer, Verdict}
use Rattle.kinds.specs.Policy.{meant, is_first_fit}
use Rattle.share.specs.Table.{periods_at}
use Rattle.fit.specs.Fit.{place_at}
use Rattle.policy.specs.Under.{rows_under, loads_under, least_under}
use Rattle.admission.specs.Admission.{admission}

-- the processor of task i with these loads
abbrev pub processor_on : Policy → ℕ → (ℕ → ℕ) → ℕ → ℕ
processor_on p m load i = pick (is_first_fit p) (place_at m load i + 1) 0

-- the processor of task i at step k, with loads by step and task: "1 to m under policy 4, and 0 ("any") under 1 to 3"; Ask 1: 0 under 5
abbrev pub processor_at : Policy → ℕ → (ℕ → ℕ → ℕ) → ℕ → ℕ → ℕ
processor_at p m load k i = processor_on p m (load k) i

unfoldable pub processors_at : Policy → ℕ → (ℕ → ℕ → ℕ) → ℕ → ℕ → List ℕ
processors_at p m load n k = list_to (processor_at p m load k) n

-- an admitted call is answered by the least passing step, or refused by 7
abbrev pub decided : Verdict → Step → Handed ℕ
decided (Err r) step = refused 0 r
decided (Ok _) (Some k) = accepted k
decided (Ok _) None = refused 0 NoStepPasses

-- the periods and the processors at step k, of the first n of some records
abbrev pub periods_under : Settings → List Task → ℕ → ℕ → List ℕ
periods_under s rows n k = periods_at s.notch (rows_under s rows n) n k

abbrev pub processors_under : Settings → List Task → ℕ → ℕ → List ℕ
processors_under s rows n k = processors_at (meant s.policy) s.m (loads_under s rows n) n k

-- what stands in the two outputs after a call
abbrev pub periods_after : Handed ℕ → Settings → List Task → ℕ → List ℕ → List ℕ
periods_after h s rows n old = after h (periods_under s rows n h.value) n old

abbrev pub processors_after : Handed ℕ → Settings → List Task → ℕ → List ℕ → List ℕ
processors_after h s rows n old = after h (processors_under s rows n h.value) n old

-- number, place and step, and the two outputs as the call leaves them
pub record Outcome : Type 0 where
  pub handed : Handed ℕ
  pub periods : List ℕ
  pub processors : List ℕ

-- a finder's call on any kind of task: what it hands back, and over what stood in its two outputs n entries each of what the step grants
abbrev pub settled : Handed ℕ → (ℕ → List ℕ) → (ℕ → List ℕ) → ℕ → List ℕ → List ℕ → Outcome
settled h periods processors n old_periods old_processors =
    record { handed = h; periods = after h (periods h.value) n old_periods; processors = after h (processors h.value) n old_processors }

-- the admission, and the least passing step where it admits; a finder serves policy 4, or does not
unfoldable pub found : Bool → Settings → List Task → ℕ → ℕ → Handed ℕ
found serves s rows n room = decided (admission serves s rows n room) (least_under s rows n)

-- a finder's call, with the two outputs as they are lent
unfoldable pub outcome : Bool → Settings → List Task → ℕ → List ℕ → List ℕ → Outcome
outcome serves s rows n periods processors =
    settled (found serves s rows n (min (length periods) (length processors))) (periods_under s rows n) (processors_under s rows n) n periods processors

-- an answer and the two outputs at exit are those of the outcome
pub record Meets (o : Outcome) (answer : Answer) (periods processors : List ℕ) : Type 0 where
  pub answers : handed answer ≡ o.handed
  pub grants : periods ≡ o.periods
  pub places : processors ≡ o.processors
