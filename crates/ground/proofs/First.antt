-- The computed first number is the first in words, and no other number is.
-- Assumes nothing.
use Rattle.ground.proofs.Kit.{ℕ, zero, suc, ◌+◌, ◌<◌, Bool, true, false, not, ◌≡◌, sym, ◌∙◌, ap, arith}
use Rattle.ground.specs.First.{first_from, first_below, IsFirst}
use Rattle.ground.proofs.Cases.{by_bool, by_le, true-false, below_next}

from_is : (test : ℕ → Bool) (n from count : ℕ) → from + count ≡ n → ((j : ℕ) → j < from → test j ≡ false) → IsFirst test n (first_from test from count)
unfolding first_from
from_is test n from zero e h = record { last = omega arith; there = λ l. absurd (omega arith); before = h }
from_is test n from (suc count) e h =
    by_bool (test from)
    (λ t. rw (t, first_from) (record { last = omega arith; there = λ l. t; before = h }))
    (λ t. rw (t, first_from)
    (from_is test n (suc from) count (omega arith) (λ j l. below_next (λ i. test i ≡ false) from h t j (omega arith))))

pub first-is : (test : ℕ → Bool) (n : ℕ) → IsFirst test n (first_below test n)
unfolding first_below
first-is test n = from_is test n 0 n (omega arith) (λ j l. absurd (omega arith))

pub first-unique : (test : ℕ → Bool) (n r s : ℕ) → IsFirst test n r → IsFirst test n s → r ≡ s
first-unique test n r s p q =
    by_le r s
    (λ h. by_le s r (λ g. omega arith) (λ g. true-false (p.there (omega (arith, q.last))) (q.before r g)))
    (λ h. true-false (q.there (omega (arith, p.last))) (p.before s h))

-- a walk over the numbers below n that has come to i
module _ (test : ℕ → Bool) (n i : ℕ) (h : (j : ℕ) → j < i → test j ≡ false) where
  pub first-here : i < n → test i ≡ true → i ≡ first_below test n
  first-here l t =
      first-unique test n i _ (record { last = omega arith; there = λ _. t; before = h }) (first-is test n)

  pub first-none : i ≡ n → i ≡ first_below test n
  first-none e =
      first-unique test n i _ (record { last = omega arith; there = λ l. absurd (omega arith); before = h }) (first-is test n)

  pub first_more : test i ≡ false → (j : ℕ) → j < i + 1 → test j ≡ false
  first_more t j l = below_next (λ x. test x ≡ false) i h t j (omega arith)

-- a walk over what is good or not, which has come to i without meeting what is not, as it asks
module _ (good : ℕ → Bool) (n i : ℕ) (h : (j : ℕ) → j < i → not (good j) ≡ false) where
  pub bad-here : i < n → (b : Bool) → b ≡ good i → not b ≡ true → i ≡ first_below (λ j. not (good j)) n
  bad-here l b e t = first-here (λ j. not (good j)) n i h l (ap not (sym e) ∙ t)

  pub bad_more : (b : Bool) → b ≡ good i → not b ≡ false → (j : ℕ) → j < i + 1 → not (good j) ≡ false
  bad_more b e t = first_more (λ j. not (good j)) n i h (ap not (sym e) ∙ t)

  pub bad-none : i ≡ n → n ≡ first_below (λ j. not (good j)) n
  bad-none e = sym e ∙ first-none (λ j. not (good j)) n i h e

pub first_cong : (f g : ℕ → Bool) (n : ℕ) → ((i : ℕ) → i < n → f i ≡ g i) → first_below f n ≡ first_below g n
first_cong f g n e =
    let p = first-is f n in
    first-unique g n _ _
    (record {
      last = p.last;
      there = λ l. sym (e _ l) ∙ p.there l;
      before = λ j l. sym (e j (omega (arith, p.last))) ∙ p.before j l;
    })
    (first-is g n)
