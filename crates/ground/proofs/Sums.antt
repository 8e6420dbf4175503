-- Further laws of sums: of two of them side by side, of one over more numbers, and of terms that are mostly 0.
-- Assumes nothing.
use Rattle.ground.proofs.Kit.{ℕ, zero, suc, ◌+◌, ◌*◌, ◌≤◌, ◌<◌, Bool, ◌≡◌, ap, arith}
use Rattle.ground.specs.Choice.{pick}
use Rattle.ground.specs.Folds.{sum_to, count_to}
use Rattle.ground.proofs.Cases.{by_bool, by_le}
use Rattle.ground.proofs.Folds.{sum-le, sum-line, sum-most}

-- the sum of sums
pub sum-plus : (f g : ℕ → ℕ) (n : ℕ) → sum_to (λ i. f i + g i) n ≡ sum_to f n + sum_to g n
sum-plus f g n = omega (arith, sum-line (λ i. f i + g i) f g 1 n (λ i l. omega arith))

-- one term's gap is no larger than the gap of the sums, where no term is smaller
pub sum-gap : (f g : ℕ → ℕ) (n : ℕ) → ((i : ℕ) → i < n → f i ≤ g i) → (i : ℕ) → i < n → sum_to f n + g i ≤ sum_to g n + f i
unfolding sum_to
sum-gap f g zero h i l = absurd (omega arith)
sum-gap f g (suc n) h i l =
    by_le (suc i) n
    (λ m. omega (arith, sum-gap f g n (λ k o. h k (omega arith)) i m, h n (omega arith)))
    (λ m. let e : i ≡ n = omega arith in omega (arith, sum-le f g n (λ k o. h k (omega arith)), ap f e, ap g e))

-- so where one term is larger and none smaller, the sum is larger
pub sum_lt : (f g : ℕ → ℕ) (n k : ℕ) → ((i : ℕ) → i < n → f i ≤ g i) → k < n → f k < g k → sum_to f n < sum_to g n
sum_lt f g n k h l m = omega (arith, sum-gap f g n h k l)

-- a sum that is larger is larger at some number
pub sum-larger : (f g : ℕ → ℕ) (n : ℕ) → sum_to f n < sum_to g n → (i : ℕ) × (i < n) × (f i < g i)
unfolding sum_to
sum-larger f g zero h = absurd (omega arith)
sum-larger f g (suc n) h =
    by_le (g n) (f n)
    (λ l. let r = sum-larger f g n (omega arith) in (r.0, omega (arith, r.1), r.2))
    (λ l. (n, omega arith, l))

-- a sum over more numbers is no smaller
pub sum-wider : (f : ℕ → ℕ) (n k : ℕ) → n ≤ k → sum_to f n ≤ sum_to f k
unfolding sum_to
sum-wider f n zero h = let e : n ≡ 0 = omega arith in omega (arith, ap (sum_to f) e)
sum-wider f n (suc k) h =
    by_le n k (λ l. omega (arith, sum-wider f n k l)) (λ l. let e : n ≡ suc k = omega arith in omega (arith, ap (sum_to f) e))

-- terms of at most c where a test holds
pub sum-counted : (test : ℕ → Bool) (f : ℕ → ℕ) (c n : ℕ) → ((i : ℕ) → i < n → f i ≤ c) → sum_to (λ i. pick (test i) (f i) 0) n ≤ count_to test n * c
unfolding sum_to count_to
sum-counted test f c zero h = omega arith
sum-counted test f c (suc n) h =
    let before = sum-counted test f c n (λ i l. h i (omega arith)) in
    by_bool (test n) (λ e. rw e (omega (arith, before, h n (omega arith)))) (λ e. rw e (omega (arith, before)))

-- a sum that is not 0 has a term that is not 0
pub sum-some : (f : ℕ → ℕ) (n : ℕ) → 1 ≤ sum_to f n → (i : ℕ) × (i < n) × (1 ≤ f i)
sum-some f n h = sum-larger (λ i. 0) f n (omega (arith, sum-most (λ i. 0) n 0 (λ i l. omega arith)))

-- at most one term is not 0, and that is 1
pub sum_one : (f : ℕ → ℕ) (n : ℕ) → ((i : ℕ) → i < n → f i ≤ 1) → ((i k : ℕ) → i < n → k < n → 1 ≤ f i → 1 ≤ f k → i ≡ k) → sum_to f n ≤ 1
unfolding sum_to
sum_one f zero h u = omega arith
sum_one f (suc n) h u =
    by_le (f n) 0
    (λ l. omega (arith, sum_one f n (λ i o. h i (omega arith)) (λ i k o p. u i k (omega arith) (omega arith))))
    (λ l. omega (
      arith,
      h n (omega arith),
      sum-most f n 0 (λ i o. by_le (f i) 0 (λ q. q) (λ q. absurd (omega (arith, u i n (omega arith) (omega arith) q l)))),
    ))
