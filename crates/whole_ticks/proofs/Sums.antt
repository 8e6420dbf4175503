-- Sums of numbers that are all the same, c times as large, by rows and by columns, and of one number only.
-- Assumes nothing.
use Rattle.ground.proofs.Kit.{ℕ, zero, suc, ◌*◌, ◌≤◌, Bool, true, false, ◌≡◌, refl, sym, ◌∙◌, mul-le-mul_left, arith, eqb, eqb-true}
use Rattle.ground.specs.Choice.{pick, bit}
use Rattle.ground.specs.Folds.{sum_to, count_to}
use Rattle.ground.proofs.Folds.{sum-cong, sum-line}
use Rattle.ground.proofs.Sums.{sum-plus, sum_one}
use Rattle.ground.proofs.Tests.{bit-some, bit-most}

-- a count is a sum
pub count-sum : (test : ℕ → Bool) (n : ℕ) → count_to test n ≡ sum_to (λ i. bit (test i)) n
unfolding count_to sum_to
count-sum test zero = refl
count-sum test (suc n) = omega (arith, count-sum test n)

-- a sum of terms that are all c
pub sum-flat : (c n : ℕ) → sum_to (λ i. c) n ≡ c * n
unfolding sum_to
sum-flat c zero = omega arith
sum-flat c (suc n) = omega (arith, sum-flat c n)

-- c times a sum
pub sum-times : (f : ℕ → ℕ) (c n : ℕ) → sum_to (λ i. c * f i) n ≡ c * sum_to f n
sum-times f c n = omega (arith, sum-line (λ i. c * f i) (λ i. 0) f c n (λ i l. omega arith), sum-flat 0 n)

-- a sum by columns is the sum by rows
pub sum-turned : (f : ℕ → ℕ → ℕ) (rows columns : ℕ) → sum_to (λ t. sum_to (λ r. f r t) rows) columns ≡ sum_to (λ r. sum_to (f r) columns) rows
unfolding sum_to
sum-turned f rows zero = omega (arith, sum-flat 0 rows)
sum-turned f rows (suc columns) =
    omega (arith, sum-turned f rows columns, sum-plus (λ r. sum_to (f r) columns) (λ r. f r columns) rows)

-- a number or 0 is the number times 1 or 0
pick-times : (b : Bool) (c : ℕ) → pick b c 0 ≡ c * bit b
pick-times true c = omega arith
pick-times false c = omega arith

-- a sum with one term at most
pub sum-at : (a c n : ℕ) → sum_to (λ k. pick (eqb a k) c 0) n ≤ c
sum-at a c n =
    let once = sum_one (λ k. bit (eqb a k)) n (λ k l. bit-most (eqb a k))
    (λ i k l o p q. sym (eqb-true a i (bit-some _ p)) ∙ eqb-true a k (bit-some _ q)) in
    omega (
      arith,
      sum-cong (λ k. pick (eqb a k) c 0) (λ k. c * bit (eqb a k)) n (λ k l. pick-times (eqb a k) c),
      sum-times (λ k. bit (eqb a k)) c n,
      mul-le-mul_left c once,
    )
