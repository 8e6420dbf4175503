-- What a call hands on of a planner that promises nothing: the checker's answer on what it proposed, for every input.
-- Assumes nothing.
use Rattle.kinds.specs.Answer.{Verdict}
use Rattle.std.specs.Prelude.{ℕ, List, ◌≡◌, length, drop, Ok, Err}
use Rattle.kinds.specs.declared.Task.{Task}
use Rattle.kinds.specs.declared.Settings.{Settings}
use Rattle.proposal.specs.Proposal.{outcome, Meets}

-- what stands in the lent proposal after a call: the planned one where that is accepted, else what stood there
abbrev pub left_by : Verdict → List ℕ → List ℕ → List ℕ
left_by (Ok _) planned old = planned
left_by (Err r) planned old = old

-- some proposal is planned, which is as long as the lent one and differs from it in the first n entries only; verdict and loads are the
-- checker's on it
pub record HandsOn (s : Settings) (rows : List Task) (n k : ℕ) (old_proposal old_loads : List ℕ) (v : Verdict) (proposal loads : List ℕ) : Type 0 where
  pub planned : List ℕ
  pub long : length planned ≡ length old_proposal
  pub past : drop n planned ≡ drop n old_proposal
  pub checked : Meets (outcome s rows n k planned old_loads) v loads
  pub leaves : proposal ≡ left_by v planned old_proposal
