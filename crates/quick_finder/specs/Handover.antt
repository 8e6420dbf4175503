-- What the functions of the quick finder hand each other.
-- Assumes nothing.
use Rattle.kinds.specs.Answer.{Answer}
use Rattle.std.specs.Prelude.{ℕ, Bool, true, false, List, ◌≡◌}
use Rattle.ground.specs.declared.Ended.{Ended}
use Rattle.ground.specs.Folds.{max_to}
use Rattle.ground.specs.Least.{least_up_to}
use Rattle.kinds.specs.declared.Task.{Task}
use Rattle.kinds.specs.declared.Settings.{Settings}
use Rattle.kinds.specs.Policy.{meant}
use Rattle.kinds.specs.Settings.{tests_charge}
use Rattle.springs.specs.Spring.{saturations}
use Rattle.springs.specs.declared.Springs.{Springs}
use Rattle.springs.specs.Springs.{spring_in, full_in}
use Rattle.policy.specs.Sides.{weights_of}
use Rattle.policy.specs.Looks.{looks_for}
use Rattle.policy.specs.Weighed.{weighed_at, charged_at}
use Rattle.outcome.specs.Handover.{FoundSprung}
use Rattle.halve.specs.Halves.{HalvingEnds}
use Rattle.quick_finder.specs.Looked.{looks}

-- a search ends at the least step up to full compression, with the looks that it calls for
pub record SearchEnds (test : ℕ → Bool) (saturation : ℕ → ℕ) (n : ℕ) (r : Ended) : Type 0 where
  pub least : r.step ≡ least_up_to test (max_to saturation n)
  pub count : r.looks ≡ looks_for saturation n r.step

-- by the settings' edition: under edition 1 it divides, under edition 2 it halves
pub record SearchUnder (s : Settings) (springs : Springs) (r : Ended) : Type 0 where
  pub first : tests_charge s ≡ false
      → SearchEnds (weighed_at (weights_of (meant s.policy) s.m springs.n) (spring_in springs) springs.n) (saturations (spring_in springs)) springs.n r
  pub second : tests_charge s ≡ true
      → HalvingEnds (charged_at (weights_of (meant s.policy) s.m springs.n) springs.notch (spring_in springs) springs.n) (full_in springs springs.n) r

-- an answer and its looks, and of an acceptance the springs that its periods come from
pub record LookedSprung (s : Settings) (rows : List Task) (n room : ℕ) (answer : Answer) (count : ℕ) (springs : Springs) : Type 0 where
  pub found : FoundSprung false s rows n room answer springs
  pub counted : count ≡ looks s rows n room
