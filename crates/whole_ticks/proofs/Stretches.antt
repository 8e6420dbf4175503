-- Stretches of numbers: sums over one, and over several of the same length one after the other.
-- Assumes nothing.
use Rattle.ground.proofs.Kit.{ℕ, zero, suc, ◌+◌, ◌-◌, ◌*◌, ◌/◌, ◌%◌, ◌≤◌, ◌<◌, ◌≡◌, ◌∙◌, ap, arith}
use native.Mathlib.Nat.{add-suc, div-add-mod', mod-lt, mul-add-div_right, mul-add-mod_self_right, div-eq_of_lt, mod-eq_of_lt}
use Rattle.ground.specs.Folds.{sum_to}
use Rattle.ground.proofs.Cases.{by_le}
use Rattle.ground.proofs.Folds.{sum-most}
use Rattle.ground.proofs.Sums.{sum-wider}

-- a sum is that of the first a terms and that of the others
sum-from : (f : ℕ → ℕ) (a b : ℕ) → sum_to f (a + b) ≡ sum_to f a + sum_to (λ x. f (a + x)) b
unfolding sum_to
sum-from f a zero = let e : a + 0 ≡ a = omega arith in omega (arith, ap (sum_to f) e)
sum-from f a (suc b) = ap (sum_to f) (add-suc a b) ∙ omega (arith, sum-from f a b)

-- a stretch is no more than the whole
pub stretch-le : (f : ℕ → ℕ) (a b n : ℕ) → a + b ≤ n → sum_to (λ x. f (a + x)) b ≤ sum_to f n
stretch-le f a b n l = omega (arith, sum-from f a b, sum-wider f (a + b) n l)

-- and is the whole where the other terms are 0
pub stretch-all : (f : ℕ → ℕ) (a b n : ℕ) → a + b ≤ n → ((t : ℕ) → 1 ≤ f t → (a ≤ t) × (t < a + b)) → sum_to f n ≤ sum_to (λ x. f (a + x)) b
stretch-all f a b n l h =
    let rest = n - (a + b) in
    let e : a + b + rest ≡ n = omega arith in
    let low = sum-most f a 0 (λ t o. by_le (f t) 0 (λ z. z) (λ z. absurd (omega (arith, h t z)))) in
    let high = sum-most (λ x. f (a + b + x)) rest 0 (λ x o. by_le (f (a + b + x)) 0 (λ z. z) (λ z. absurd (omega (arith, h (a + b + x) z)))) in
    omega (arith, ap (sum_to f) e, sum-from f (a + b) rest, sum-from f a b, low, high)

-- n stretches of the same length
pub sum_rows : (f : ℕ → ℕ) (n long : ℕ) → sum_to f (n * long) ≡ sum_to (λ i. sum_to (λ k. f (i * long + k)) long) n
unfolding sum_to
sum_rows f zero long = let e : 0 * long ≡ 0 = omega arith in ap (sum_to f) e
sum_rows f (suc n) long =
    let e : suc n * long ≡ n * long + long = omega arith in
    ap (sum_to f) e ∙ omega (arith, sum-from f (n * long) long, sum_rows f n long)

-- number k of stretch i is in stretch i
pub stretch-of : (i k long : ℕ) → k < long → (i * long + k) / long ≡ i
stretch-of i k long l = mul-add-div_right {m = long} (omega arith) i k ∙ omega (arith, div-eq_of_lt l)

-- and is its number k
pub place_of : (i k long : ℕ) → k < long → (i * long + k) % long ≡ k
place_of i k long l = mul-add-mod_self_right i long k ∙ mod-eq_of_lt l

-- and a number that is in stretch i is from its beginning on and before its end
pub within-stretch : (i t long : ℕ) → 1 ≤ long → t / long ≡ i → (i * long ≤ t) × (t < i * long + long)
within-stretch i t long l e = rw (← e) (omega (arith, div-add-mod' t long, mod-lt t l))
