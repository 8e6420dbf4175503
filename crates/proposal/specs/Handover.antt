-- What the functions of the checker and a planner hand each other.
-- Assumes nothing.
use Rattle.kinds.specs.Answer.{Verdict}
use Rattle.std.specs.Prelude.{ℕ, ◌+◌, ◌≤◌, ◌<◌, Bool, List, ◌≡◌, length, get_or, Ok, Option, Some, None}
use Rattle.ground.specs.First.{first_below}
use Rattle.kinds.specs.declared.Task.{Task}
use Rattle.kinds.specs.declared.Settings.{Settings}
use Rattle.kinds.specs.Limits.{most_processors}
use Rattle.springs.specs.declared.Springs.{Springs}
use Rattle.fit.specs.Fit.{load_in}
use Rattle.fit.specs.Handover.{Loads}
use Rattle.policy.specs.Under.{loads_under}
use Rattle.proposal.specs.Loads.{processor_load, InRange}
use Rattle.proposal.specs.Proposal.{place_in, admission}

-- what the admission has checked of the counts, and springs that have the loads of the tasks at step k
pub record LoadsOf (s : Settings) (rows : List Task) (n k : ℕ) (springs : Springs) : Type 0 where
  pub m-most : s.m ≤ most_processors
  pub count : springs.n ≡ n
  pub light : Loads springs.loads n
  pub are : (i : ℕ) → i < n → load_in springs.loads i ≡ loads_under s rows n k i

-- the admission, and where it admits the loads of the tasks
pub record AdmittedLoaded (s : Settings) (rows : List Task) (n k proposed room : ℕ) (a : Verdict) (springs : Springs) : Type 0 where
  pub is : a ≡ admission s rows n proposed room
  pub loads : a ≡ (Ok tt) → LoadsOf s rows n k springs

-- the first number below n at which a test holds, where there is one
abbrev pub FoundFirst : (ℕ → Bool) → ℕ → Option ℕ → Type 0
FoundFirst test n (Some i) = (i < n) × (i ≡ first_below test n)
FoundFirst test n None = n ≤ first_below test n

-- what the loading relies on: loads of n tasks, and for each of them a processor that there can be
pub record Loadable (loads : List ℕ) (n : ℕ) (proposal : List ℕ) : Type 0 where
  pub light : Loads loads n
  pub long : n ≤ length proposal
  pub each : (i : ℕ) → i < n → InRange most_processors (place_in proposal i)

-- the load of each processor that there can be
pub record LoadsAre (load place : ℕ → ℕ) (n : ℕ) (held : List ℕ) : Type 0 where
  pub long : length held ≡ most_processors
  pub are : (j : ℕ) → j < most_processors → get_or held j 0 ≡ processor_load load place n (j + 1)
