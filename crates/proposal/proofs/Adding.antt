-- Where each processor is from 1 to m, the loads of the processors add up to the loads of the tasks: `loads-add-up`.
-- Assumes nothing.
use Rattle.ground.proofs.Kit.{ℕ, zero, suc, ◌+◌, ◌≤◌, ◌<◌, ◌≡◌, refl, arith, eqb, eq-eqb, ne_eqb}
use Rattle.ground.specs.Choice.{pick}
use Rattle.ground.specs.Folds.{sum_to}
use Rattle.ground.proofs.Cases.{by-eq}
use Rattle.ground.proofs.Folds.{sum-most, sum-line}
use Rattle.proposal.specs.Loads.{processor_load, InRange}

-- one number at place p, counted from 1, and zeros elsewhere
only : ℕ → ℕ → ℕ → ℕ
only p x j = pick (eqb p (j + 1)) x 0

only_here : (p x j : ℕ) → p ≡ j + 1 → only p x j ≡ x
unfolding only
only_here p x j e = rw (eq-eqb p (j + 1) e)

only-elsewhere : (p x j : ℕ) → (p ≡ j + 1 → ⊥) → only p x j ≡ 0
unfolding only
only-elsewhere p x j d = rw (ne_eqb p (j + 1) d)

sum-only : (p x m : ℕ) → (m < p → sum_to (only p x) m ≡ 0) × (1 ≤ p → p ≤ m → sum_to (only p x) m ≡ x)
unfolding sum_to
sum-only p x zero = (λ h. refl, λ l h. absurd (omega arith))
sum-only p x (suc m) =
    let ih = sum-only p x m in (
      λ h. omega (arith, ih.0 (omega arith), only-elsewhere p x m (λ e. omega arith)),
      λ l h. by-eq p (m + 1)
          (λ e. omega (arith, ih.0 (omega arith), only_here p x m e))
          (λ d. omega (arith, ih.1 l (omega (arith, d)), only-elsewhere p x m d)),
    )

-- Ask 7: "the loads handed back add up to the sum of the shares", over any loads
pub loads-add-up : (load place : ℕ → ℕ) (m n : ℕ) → ((i : ℕ) → i < n → InRange m (place i))
    → sum_to (λ j. processor_load load place n (j + 1)) m ≡ sum_to load n
unfolding processor_load sum_to only
loads-add-up load place m zero h = omega (arith, sum-most (λ j. 0) m 0 (λ j l. omega arith))
loads-add-up load place m (suc n) h =
    let range = h n (omega arith) in
    let others = loads-add-up load place m n (λ i l. h i (omega arith)) in
    let one : sum_to (only (place n) (load n)) m ≡ load n = (sum-only (place n) (load n) m).1 range.some range.most in
    let both =
    sum-line (λ j. processor_load load place (suc n) (j + 1)) (λ j. processor_load load place n (j + 1)) (only (place n) (load n)) 1 m (λ j l. omega arith) in
    omega (arith, both, others, one)
