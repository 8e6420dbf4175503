-- The bounds follow document 02's rule: one test, computed over all of them, and what it says of each.
-- Assumes nothing.
use Rattle.ground.proofs.Kit.{ℕ, zero, suc, ◌+◌, ◌*◌, ◌^◌, ◌≤◌, ◌<◌, Bool, true, not, ◌≡◌, refl, sym, ◌∙◌, le_trans, arith, eqb, leb, eqb-true, le-leb}
use Rattle.ground.proofs.Kit.{leb-true, not-true, not-false}
use native.Mathlib.Nat.{pow-le-pow_left}
use lib.ListN.{get_or-eq_default}
use Rattle.ground.specs.Choice.{both}
use Rattle.ground.specs.First.{first_below, first_from}
use Rattle.ground.proofs.Cases.{by_le, both_true, true-false}
use Rattle.ground.proofs.First.{first-is}
use Rattle.kinds.specs.Limits.{scale, most_tasks}
use Rattle.bound.specs.Bound.{FitsBound, LargestWithin, IsBound, bounds, bound_of}

-- b is within, as a test
abbrev is_within : ℕ → ℕ → Bool
is_within n b = leb ((n * scale + b) ^ n) (2 * (n * scale) ^ n)

-- b is within, and one more is not
abbrev is_largest : ℕ → ℕ → Bool
is_largest n b = both (is_within n b) (not (is_within n (b + 1)))

-- what the bound for n tasks has to be: it is also no more than all of a processor
abbrev is_right : ℕ → ℕ → Bool
is_right zero b = eqb b 0
is_right (suc n) b = both (is_largest (suc n) b) (leb b scale)

-- every bound is right: the first that is not stands past the most tasks
all_right : first_below (λ n. not (is_right n (bound_of n))) (most_tasks + 1) ≡ most_tasks + 1
unfolding first_below first_from bounds bound_of
all_right = refl

-- so each of them is
right-at : (n : ℕ) → n ≤ most_tasks → is_right n (bound_of n) ≡ true
right-at n l =
    let first = first-is (λ i. not (is_right i (bound_of i))) (most_tasks + 1) in
    not-false (is_right n (bound_of n)) (first.before n (omega (arith, all_right)))

-- what is below a number that is within is within too, since a power grows with its base
within-below : (n a b : ℕ) → a ≤ b → FitsBound n b → FitsBound n a
within-below n a b l w = le_trans (pow-le-pow_left (more a b l) n) w
  where
    more : (a b : ℕ) → a ≤ b → n * scale + a ≤ n * scale + b
    more a b l = omega arith

-- so nothing above b is within where one more is not
largest : (n b : ℕ) → is_largest n b ≡ true → LargestWithin n b
largest n b e =
    let tests = both_true (is_within n b) (not (is_within n (b + 1))) e in
    let past = not-true (is_within n (b + 1)) tests.1 in
    record {
      within = leb-true _ _ tests.0;
      none-larger = λ a w. by_le a b (λ l. l) (λ l. true-false (le-leb _ _ (within-below n (b + 1) a (next b a l) w)) past);
    }
  where
    next : (b a : ℕ) → b < a → b + 1 ≤ a
    next b a l = omega arith

-- what the test says of the bound for one task or more
shown : (n : ℕ) → suc n ≤ most_tasks → LargestWithin (suc n) (bound_of (suc n)) × (bound_of (suc n) ≤ scale)
shown n l =
    let b = bound_of (suc n) in
    let tests = both_true (is_largest (suc n) b) (leb b scale) (right-at (suc n) l) in
    (largest (suc n) b tests.0, leb-true b scale tests.1)

-- document 02's rule, at each number of tasks
pub bound-is : (n : ℕ) → n ≤ most_tasks → IsBound n (bound_of n)
bound-is zero l = eqb-true _ 0 (right-at 0 l)
bound-is (suc n) l = (shown n l).0

-- which no other number follows
pub bound-unique : (n a b : ℕ) → IsBound n a → IsBound n b → a ≡ b
bound-unique zero a b p q = p ∙ sym q
bound-unique (suc n) a b p q = omega (arith, p.none-larger b q.within, q.none-larger a p.within)

-- there is none past the most tasks
past-most : (n : ℕ) → most_tasks < n → bound_of n ≡ 0
unfolding bounds bound_of
past-most n l = get_or-eq_default bounds 0 l

-- a bound is no more than all of a processor, however many tasks there are
pub bound-high : (n : ℕ) → bound_of n ≤ scale
bound-high n = by_le n most_tasks (high n) (λ l. omega (arith, past-most n l))
  where
    high : (n : ℕ) → n ≤ most_tasks → bound_of n ≤ scale
    high zero l = omega (arith, bound-is 0 l)
    high (suc n) l = (shown n l).1

-- document 02: "For n = 1 it is 1,000,000, for n = 2 it is 828,427."
pub bound-of-one : bound_of 1 ≡ 1000000
unfolding bounds bound_of
bound-of-one = refl

pub bound-of-two : bound_of 2 ≡ 828427
unfolding bounds bound_of
bound-of-two = refl
