-- Laws of tests over numbers: where a test holds at any of them, and where it holds at none.
-- Assumes nothing.
use Rattle.ground.proofs.Kit.{ℕ, zero, suc, ◌+◌, ◌≤◌, ◌<◌, Bool, true, false, ◌≡◌, refl, arith}
use Rattle.ground.specs.Choice.{bit}
use Rattle.ground.specs.Folds.{any_to}
use Rattle.ground.proofs.Cases.{by_bool, by_le, true-false}
use Rattle.ground.proofs.Folds.{any-has}

-- a test that counts holds
pub bit-some : (b : Bool) → 1 ≤ bit b → b ≡ true
bit-some true h = refl
bit-some false h = absurd (omega arith)

-- and counts for one
pub bit-most : (b : Bool) → bit b ≤ 1
bit-most true = omega arith
bit-most false = omega arith

-- a test that holds at any holds at one of them
pub any-finds : (test : ℕ → Bool) (n : ℕ) → any_to test n ≡ true → (i : ℕ) × (i < n) × (test i ≡ true)
unfolding any_to
any-finds test zero h = true-false h refl
any-finds test (suc n) h =
    by_bool (any_to test n)
    (λ e. let found = any-finds test n e in (found.0, omega (arith, found.1), found.2))
    (λ e. (n, omega arith, rw e at h))

-- a test that holds at none fails at each
pub any-fails : (test : ℕ → Bool) (n i : ℕ) → any_to test n ≡ false → i < n → test i ≡ false
any-fails test n i h l = by_bool (test i) (λ e. true-false (any-has test n i l e) h) (λ e. e)

-- by cases: a test fails at each of the t numbers after a, or holds at one of them
pub by_all : {X : Type 0} (test : ℕ → Bool) (a t : ℕ)
    → (((s : ℕ) → a < s → s ≤ a + t → test s ≡ false) → X) → ((s : ℕ) → a < s → s ≤ a + t → test s ≡ true → X) → X
by_all test a zero none one = none (λ s l m. absurd (omega arith))
by_all test a (suc t) none one =
    by_bool (test (suc (a + t)))
    (λ e. one (suc (a + t)) (omega arith) (omega arith) e)
    (λ e. by_all test a t (λ h. none (λ s l m. last s l m h e)) (λ s l m. one s l (omega arith)))
  where
    last : (s : ℕ) → a < s → s ≤ a + suc t → ((s : ℕ) → a < s → s ≤ a + t → test s ≡ false) → test (suc (a + t)) ≡ false → test s ≡ false
    last s l m h e = by_le s (a + t) (λ b. h s l b) (λ b. let z : s ≡ suc (a + t) = omega arith in rw z e)
