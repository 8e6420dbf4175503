-- Ways to go by cases.
-- Assumes nothing.
use Rattle.ground.proofs.Kit.{ℕ, ◌≤◌, ◌<◌, Bool, true, false, ◌≡◌, refl, arith, leb, leb-true, leb-false}
use Rattle.ground.specs.Choice.{both}

pub by_bool : {X : Type 0} (b : Bool) → (b ≡ true → X) → (b ≡ false → X) → X
by_bool true f g = f refl
by_bool false f g = g refl

pub by_le : {X : Type 0} (a b : ℕ) → (a ≤ b → X) → (b < a → X) → X
by_le a b f g = by_bool (leb a b) (λ h. f (leb-true a b h)) (λ h. g (leb-false a b h))

pub by-eq : {X : Type 0} (a b : ℕ) → (a ≡ b → X) → ((a ≡ b → ⊥) → X) → X
by-eq a b f g = by_le a b (λ u. by_le b a (λ v. f (omega arith)) (λ v. g (λ e. omega arith))) (λ u. g (λ e. omega arith))

-- a test cannot both hold and fail
pub true-false : {b : Bool} {X : Type 0} → b ≡ true → b ≡ false → X
true-false p q = let z : ◌≡◌ {A = ℕ} 0 1 = cc in absurd (omega arith)

pub false_of : (b : Bool) → (b ≡ true → ⊥) → b ≡ false
false_of true h = absurd (h refl)
false_of false h = refl

-- what is true below n and at n is true below the next
pub below_next : (P : ℕ → Type 0) (n : ℕ) → ((i : ℕ) → i < n → P i) → P n → (i : ℕ) → i ≤ n → P i
below_next P n h p i l = by_le n i (λ m. let e : i ≡ n = omega arith in rw e p) (λ m. h i m)

-- both hold, or one fails
pub both_true : (p q : Bool) → both p q ≡ true → (p ≡ true) × (q ≡ true)
both_true true q e = (refl, e)
both_true false q e = true-false e refl

-- the flag of an `&&` where control meets again: the second test where the first held, the first where it failed
pub both-taken : (p q r : Bool) → p ≡ true → r ≡ q → r ≡ both p q
both-taken p q r e f = rw e f

pub both_left : (p q r : Bool) → p ≡ false → r ≡ p → r ≡ both p q
both_left p q r e f = rw e (rw e at f)
