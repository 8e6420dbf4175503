-- Laws of choices by a test.
-- Assumes nothing.
use Rattle.ground.proofs.Kit.{ℕ, ◌+◌, ◌≤◌, ◌<◌, Bool, true, false, ◌≡◌, refl, ap, arith, eqb, eq-eqb, ne_eqb}
use Rattle.ground.specs.Choice.{pick, bit, both, either}
use Rattle.ground.proofs.Cases.{by-eq, true-false}

-- two tests that hold
pub both_hold : {p q : Bool} → p ≡ true → q ≡ true → both p q ≡ true
both_hold e f = rw (e, f)

-- the second of two tests holds
pub either-right : (p q : Bool) → q ≡ true → either p q ≡ true
either-right true q e = refl
either-right false q e = e

-- a test that holds wherever another does counts for no less
pub bit-grows : (p q : Bool) → (p ≡ true → q ≡ true) → bit p ≤ bit q
bit-grows true q h = omega (arith, ap bit (h refl))
bit-grows false q h = omega arith

-- two tests count for no more than the second where the first holds
pub bit-both : (p q : Bool) → bit (both p q) ≤ pick p (bit q) 0
bit-both true q = omega arith
bit-both false q = omega arith

-- for no more than the first
pub bit-first : (p q : Bool) → bit (both p q) ≤ bit p
bit-first true true = omega arith
bit-first true false = omega arith
bit-first false q = omega arith

-- and for no more than the second
pub bit-second : (p q : Bool) → bit (both p q) ≤ bit q
bit-second true q = omega arith
bit-second false q = omega arith

-- a test that holds only where another does counts where that does
pub bit_kept : (p q : Bool) → (q ≡ true → p ≡ true) → bit q ≤ pick p (bit q) 0
bit_kept true q h = omega arith
bit_kept false true h = true-false (h refl) refl
bit_kept false false h = omega arith

-- a number or 0 is no more than the number
pub pick-most : (b : Bool) (x : ℕ) → pick b x 0 ≤ x
pick-most true x = omega arith
pick-most false x = omega arith

-- a number or 0 that is not 0 is the number
pub pick_some : (b : Bool) (x : ℕ) → 1 ≤ pick b x 0 → b ≡ true
pick_some true x h = refl
pick_some false x h = absurd (omega arith)

-- one more at one number, where there is room for it
pub room-for-one : (v u d most : ℕ) → d ≤ most → (v ≡ u → d < most) → d + bit (eqb v u) ≤ most
room-for-one v u d most l h = by-eq v u (λ e. rw (eq-eqb v u e) (omega (arith, h e))) (λ e. rw (ne_eqb v u e) (omega arith))
