-- A policy's number, there and back, and what the questions about a policy leave open.
-- Assumes nothing.
use Rattle.ground.proofs.Kit.{ℕ, false, ◌≡◌, refl, eqb, eqb-true}
use Rattle.ground.proofs.Cases.{by_bool, true-false}
use Rattle.kinds.specs.declared.Policy.{Policy}
use Rattle.kinds.specs.declared.Policy.TheVariants.{Pooled, GlobalEdf, GlobalRm, FirstFit, OneCoreRm, Further}
use Rattle.kinds.specs.Policy.{policy_of, policy_number, is_withdrawn, is_further, Served}

-- what is read is written back, whatever the number
pub number-back : (q : ℕ) → policy_number (policy_of q) ≡ q
number-back q =
    by_bool (eqb q 1) (λ e. rw (eqb-true q 1 e))
    (λ a. by_bool (eqb q 2) (λ e. rw (eqb-true q 2 e))
    (λ b. by_bool (eqb q 3) (λ e. rw (eqb-true q 3 e))
    (λ c. by_bool (eqb q 4) (λ e. rw (eqb-true q 4 e))
    (λ d. by_bool (eqb q 5) (λ e. rw (eqb-true q 5 e)) (λ f. rw (a, b, c, d, f))))))

-- a policy that is known and not withdrawn is served
pub known-served : (p : Policy) → is_further p ≡ false → is_withdrawn p ≡ false → Served p
known-served Pooled a b c = refl
known-served GlobalEdf a b c = refl
known-served GlobalRm a b c = true-false refl b
known-served FirstFit a b c = true-false refl c
known-served OneCoreRm a b c = refl
known-served (Further q) a b c = true-false refl a
