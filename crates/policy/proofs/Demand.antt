-- Demand 2 in its own words: the step passes, no smaller one does, and none means that no step from 0 to K passes.
-- Assumes nothing.
use Rattle.ground.proofs.Kit.{ℕ, ◌≤◌, ◌<◌, false, ◌≡◌, Some, None}
use Rattle.ground.specs.Least.{LeastAt}
use Rattle.ground.proofs.Least.{least_at, least-nothing, least-cong}
use Rattle.kinds.specs.declared.Policy.{Policy}
use Rattle.policy.specs.Passing.{passes_at, least_step}
use Rattle.policy.proofs.Tests.{passes_same}

module _ (p : Policy) (m : ℕ) (load : ℕ → ℕ → ℕ) (n K : ℕ) where
  pub step-at : (k : ℕ) → least_step p m load n K ≡ Some k → LeastAt (passes_at p m load n) K k
  unfolding least_step
  step-at k e = least_at (passes_at p m load n) K k e

  pub step-nothing : least_step p m load n K ≡ None → (k : ℕ) → k ≤ K → passes_at p m load n k ≡ false
  unfolding least_step
  step-nothing e = least-nothing (passes_at p m load n) K e

-- demand 2 looks at the loads of the first n tasks only
pub step_same : (p : Policy) (m : ℕ) (f g : ℕ → ℕ → ℕ) (n K : ℕ) → ((k i : ℕ) → i < n → f k i ≡ g k i) → least_step p m f n K ≡ least_step p m g n K
unfolding least_step
step_same p m f g n K same = least-cong (passes_at p m f n) (passes_at p m g n) K (λ k. passes_same p m (f k) (g k) n (same k))
