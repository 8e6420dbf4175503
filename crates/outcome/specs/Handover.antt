-- What the finders and the writing of a plan hand each other.
-- Assumes nothing.
use Rattle.std.specs.Prelude.{ℕ, ◌≤◌, Bool, true, List, ◌≡◌}
use Rattle.ground.specs.Folds.{list_to}
use Rattle.kinds.specs.declared.Task.{Task}
use Rattle.kinds.specs.declared.Settings.{Settings}
use Rattle.kinds.specs.Answer.{Handed, after, handed, is_accepted, step_of, Answer}
use Rattle.kinds.specs.Limits.{most_processors}
use Rattle.kinds.specs.Policy.{meant, Served}
use Rattle.springs.specs.declared.Spring.{Spring}
use Rattle.springs.specs.Spring.{periods_on, loads_on}
use Rattle.springs.specs.declared.Springs.{Springs}
use Rattle.springs.specs.Springs.{spring_in}
use Rattle.springs.specs.Handover.{Chargeable, Sprung}
use Rattle.policy.specs.Passing.{passes}
use Rattle.policy.specs.Under.{rows_under}
use Rattle.outcome.specs.Plan.{processor_on, found}

-- what the search for a step relies on: springs that may be charged, on their notch, processors, and a policy that is served
pub record Searchable (s : Settings) (springs : Springs) : Type 0 where
  pub chargeable : Chargeable s.notch springs
  pub notch : springs.notch ≡ s.notch
  pub m-some : 1 ≤ s.m
  pub m-most : s.m ≤ most_processors
  pub served : Served (meant s.policy)

-- an answer, and of an acceptance the springs that its periods and processors come from
pub record FoundSprung (serves : Bool) (s : Settings) (rows : List Task) (n room : ℕ) (answer : Answer) (springs : Springs) : Type 0 where
  pub answers : handed answer ≡ found serves s rows n room
  pub sprung : is_accepted answer ≡ true → Sprung (rows_under s rows n) n springs
  pub notch : springs.notch ≡ s.notch

-- what the placing relies on: springs that may be charged, and pass at step k
pub record Placeable (s : Settings) (springs : Springs) (k : ℕ) : Type 0 where
  pub chargeable : Chargeable s.notch springs
  pub m-most : s.m ≤ most_processors
  pub passing : passes (meant s.policy) s.m (loads_on s (spring_in springs) k) springs.n ≡ true

-- what the writing of a plan relies on
pub record Grantable (s : Settings) (springs : Springs) (k periods processors : ℕ) : Type 0 where
  pub periods-roomy : springs.n ≤ periods
  pub processors-roomy : springs.n ≤ processors
  pub placeable : Placeable s springs k

abbrev pub MayGrant : Answer → Settings → Springs → ℕ → ℕ → Type 0
MayGrant answer s springs periods processors = is_accepted answer ≡ true → Grantable s springs (step_of answer) periods processors

-- two outputs as a call leaves them that hands back h, where a step grants these entries
pub record Written (h : Handed ℕ) (granted placed : ℕ → List ℕ) (n : ℕ) (old_periods old_processors periods processors : List ℕ) : Type 0 where
  pub periods-are : periods ≡ after h (granted h.value) n old_periods
  pub processors-are : processors ≡ after h (placed h.value) n old_processors

-- what the writing of a plan leaves there
abbrev pub Leaves : Handed ℕ → Settings → (ℕ → Spring) → ℕ → List ℕ → List ℕ → List ℕ → List ℕ → Type 0
Leaves h s springs n old_periods old_processors periods processors =
    Written h (λ k. list_to (periods_on s.notch springs k) n) (λ k. list_to (processor_on (meant s.policy) s.m (loads_on s springs k)) n) n
    old_periods old_processors periods processors
