-- How the count of distinct positive saturation steps grows from one look to the next.
-- Assumes nothing.
use Rattle.ground.proofs.Kit.{ℕ, zero, suc, ◌+◌, ◌≤◌, ◌<◌, Bool, false, ◌≡◌, refl, sym, ◌∙◌, ap, arith, eqb, ltb, eq-eqb, ne_eqb, eqb-true, lt-ltb, le-ltb}
use Rattle.ground.specs.Choice.{bit, both}
use Rattle.ground.specs.Folds.{any_to, count_to}
use Rattle.ground.proofs.Cases.{by_bool, by_le}
use Rattle.ground.proofs.Folds.{any-has, count-cong, count-le, count_none, count-split}
use Rattle.policy.specs.Looks.{is_new, counts, distinct, distinct_below}
use Rattle.division.specs.Next.{Next}

-- the tasks that are the first with the saturation step q are one, or none
one-new : (s : ℕ → ℕ) (q n : ℕ) → count_to (λ i. both (eqb (s i) q) (is_new s i)) n ≡ bit (any_to (λ j. eqb (s j) q) n)
unfolding count_to any_to is_new
one-new s q zero = refl
one-new s q (suc n) =
    by_bool (eqb (s n) q)
    (λ t. let e : s n ≡ q = eqb-true (s n) q t in
    by_bool (any_to (λ j. eqb (s j) q) n)
    (λ u. rw (t, e, u) (omega (arith, one-new s q n, ap bit u)))
    (λ u. rw (t, e, u) (omega (arith, one-new s q n, ap bit u))))
    (λ t. by_bool (any_to (λ j. eqb (s j) q) n)
    (λ u. rw (t, u) (omega (arith, one-new s q n, ap bit u)))
    (λ u. rw (t, u) (omega (arith, one-new s q n, ap bit u))))

-- no saturation step lies strictly between p and q: the counts below are the same
pub below-same : (s : ℕ → ℕ) (n p q k : ℕ) → ((i : ℕ) → i < n → p < s i → q ≤ s i) → p < k → k ≤ q → distinct_below s n k ≡ distinct_below s n (p + 1)
unfolding distinct_below
below-same s n p q k g a b = count-cong _ _ n (λ i l. ap (both (counts s i)) (same i l))
  where
    same : (i : ℕ) → i < n → ltb (s i) k ≡ ltb (s i) (p + 1)
    same i l =
        by_le (s i) p
        (λ h. lt-ltb (s i) k (omega arith) ∙ sym (lt-ltb (s i) (p + 1) (omega arith)))
        (λ h. le-ltb (s i) k (omega (arith, g i l h)) ∙ sym (le-ltb (s i) (p + 1) (omega arith)))

-- at one task: its step counts up to q where it counts up to p, or is q
split_at : (v p q : ℕ) (new : Bool) → p < q → (p < v → q ≤ v)
    → bit (both (both (ltb 0 v) new) (ltb v (q + 1))) ≡ bit (both (both (ltb 0 v) new) (ltb v (p + 1))) + bit (both (eqb v q) new)
split_at v p q new l g =
    by_le v p
    (λ h. rw (lt-ltb v (q + 1) (omega arith), lt-ltb v (p + 1) (omega arith), ne_eqb v q (λ z. omega arith)) (omega arith))
    (λ h. by_le v q
    (λ m. rw (lt-ltb 0 v (omega arith), lt-ltb v (q + 1) (omega arith), le-ltb v (p + 1) (omega arith), eq-eqb v q (omega (arith, g h)))
    (by_bool new (λ u. rw u) (λ u. rw u)))
    (λ m. rw (le-ltb v (q + 1) (omega arith), le-ltb v (p + 1) (omega arith), ne_eqb v q (λ z. omega arith)) (omega arith)))

-- the next saturation step makes it one more
pub below_next : (s : ℕ → ℕ) (n p q : ℕ) → Next s n p q → distinct_below s n (q + 1) ≡ distinct_below s n (p + 1) + 1
unfolding distinct_below
below_next s n p q x =
    let one : count_to (λ i. both (eqb (s i) q) (is_new s i)) n ≡ 1 =
    one-new s q n ∙ ap bit (any-has (λ j. eqb (s j) q) n x.by x.by-below (eq-eqb (s x.by) q x.is)) in
    let apart =
    count-split (λ i. both (counts s i) (ltb (s i) (q + 1))) (λ i. both (counts s i) (ltb (s i) (p + 1))) (λ i. both (eqb (s i) q) (is_new s i)) n
    (λ i l. split_at (s i) p q (is_new s i) x.above (x.least i l)) in
    omega (arith, one, apart)

pub below-most : (s : ℕ → ℕ) (n k : ℕ) → distinct_below s n k ≤ n
unfolding distinct_below
below-most s n k = count-le _ n

-- below 1 there is no positive step
pub below_one : (s : ℕ → ℕ) (n : ℕ) → distinct_below s n 1 ≡ 0
unfolding distinct_below
below_one s n = count_none _ n (λ i l. none (s i) (is_new s i))
  where
    none : (v : ℕ) (new : Bool) → both (both (ltb 0 v) new) (ltb v 1) ≡ false
    none v new =
        by_le v 0
        (λ h. rw (le-ltb 0 v (omega arith)))
        (λ h. rw (le-ltb v 1 (omega arith)) (by_bool (both (ltb 0 v) new) (λ u. rw u) (λ u. rw u)))

-- where none is above p, all are below p + 1
pub below_all : (s : ℕ → ℕ) (n p : ℕ) → ((i : ℕ) → i < n → s i ≤ p) → distinct_below s n (p + 1) ≡ distinct s n
unfolding distinct_below distinct
below_all s n p h =
    count-cong _ _ n (λ i l. rw (lt-ltb (s i) (p + 1) (omega (arith, h i l))) (by_bool (counts s i) (λ u. rw u) (λ u. rw u)))
