-- Demand 2's words: the least step from 0 to K at which a test holds.
-- Assumes nothing.
use Rattle.std.specs.Prelude.{ℕ, suc, ◌≤◌, ◌<◌, Bool, true, false, ◌≡◌, leb, Option, Some, None}
use Rattle.ground.specs.Choice.{pick}
use Rattle.ground.specs.First.{first_below}

-- the answer of a search for a step: the step, where there is one
abbrev pub Step : Type 0
Step = Option ℕ

-- a step that is at most K, or none
abbrev pub up_to : ℕ → ℕ → Step
up_to K k = pick (leb k K) (Some k) None

unfoldable pub least_up_to : (ℕ → Bool) → ℕ → Step
least_up_to test K = up_to K (first_below test (suc K))

-- the step passes, and no smaller one does
pub record LeastAt (test : ℕ → Bool) (K k : ℕ) : Type 0 where
  pub within : k ≤ K
  pub passes : test k ≡ true
  pub before : (j : ℕ) → j < k → test j ≡ false

-- the same in words: none means that none from 0 to K passes
abbrev pub IsLeast : (ℕ → Bool) → ℕ → Step → Type 0
IsLeast test K (Some k) = LeastAt test K k
IsLeast test K None = (j : ℕ) → j ≤ K → test j ≡ false

-- a step that passes is followed by steps that pass
abbrev pub Rising : (ℕ → Bool) → Type 0
Rising test = (j k : ℕ) → j ≤ k → test j ≡ true → test k ≡ true

-- a function whose possible results at a step are these answers as the test does, at each step from 0 to K
abbrev pub Answers : (ℕ → Bool → Type 0) → (ℕ → Bool) → ℕ → Type 0
Answers results test K = (k : ℕ) (passed : Bool) → k ≤ K → results k passed → passed ≡ test k
