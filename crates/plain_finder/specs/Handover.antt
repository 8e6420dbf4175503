-- What the search for a step on springs hands on.
-- Assumes nothing.
use Rattle.ground.specs.Least.{Step}
use Rattle.std.specs.Prelude.{ℕ, ◌≡◌}
use Rattle.kinds.specs.declared.Policy.{Policy}
use Rattle.springs.specs.declared.Springs.{Springs}
use Rattle.springs.specs.Springs.{full_in}
use Rattle.springs.specs.Handover.{Beside}
use Rattle.policy.specs.Passing.{least_step}

-- the least step up to full compression that passes, with loads by step and task; nothing but loads has moved
pub record Searched (p : Policy) (m : ℕ) (load : ℕ → ℕ → ℕ) (r : Step) (old new : Springs) : Type 0 where
  pub least : r ≡ least_step p m load old.n (full_in old old.n)
  pub beside : Beside old new
