-- An exact sum is the sum over any common bottom, so that no reader has to believe the way it is added; and loads that are rounded up from
-- fractions lie between S times their exact sum and less than one part for each task more.
-- Assumes nothing.
use Rattle.ground.proofs.Kit.{ℕ, zero, suc, ◌+◌, ◌-◌, ◌*◌, ◌≤◌, ◌<◌, ◌≡◌, ap, mul-le-mul_right, arith}
use native.Mathlib.Nat.{mul-lt-mul_of_pos_right, lt_of_mul-lt-mul_right, mul-pos}
use Rattle.ground.specs.Folds.{sum_to}
use Rattle.rounding_cost.specs.Exact.{Fraction, exact_sum}

-- a / b = (a · c) / D where b · c = D: with every fraction brought to the bottom D, the sum's top is the sum of their tops
pub exact-is : (f : ℕ → Fraction) (c : ℕ → ℕ) (D n : ℕ) → ((i : ℕ) → i < n → (f i).bottom * c i ≡ D)
    → (exact_sum f n).top * D ≡ (exact_sum f n).bottom * sum_to (λ i. (f i).top * c i) n
unfolding exact_sum sum_to
exact-is f c D zero h = omega arith
exact-is f c D (suc n) h =
    let before = exact-is f c D n (λ i l. h i (omega arith)) in
    let last = h n (omega arith) in
    omega (arith, ap (λ (x : ℕ). x * (f n).bottom) before, ap (λ (x : ℕ). x * ((f n).top * (exact_sum f n).bottom)) last)

-- the bottom of a sum is not 0
pub bottom-some : (f : ℕ → Fraction) (n : ℕ) → ((i : ℕ) → i < n → 0 < (f i).bottom) → 0 < (exact_sum f n).bottom
unfolding exact_sum
bottom-some f zero h = omega arith
bottom-some f (suc n) h = mul-pos (bottom-some f n (λ i l. h i (omega arith))) (h n (omega arith))

module _ (s : ℕ) (f : ℕ → Fraction) (load : ℕ → ℕ) where
  -- loads that each cover s times their fraction cover s times the exact sum
  pub sum-covers : (n : ℕ) → ((i : ℕ) → i < n → s * (f i).top ≤ load i * (f i).bottom)
      → s * (exact_sum f n).top ≤ sum_to load n * (exact_sum f n).bottom
  unfolding exact_sum sum_to
  sum-covers zero h = omega arith
  sum-covers (suc n) h =
      let before = sum-covers n (λ i l. h i (omega arith)) in
      omega (arith, mul-le-mul_right (f n).bottom before, mul-le-mul_right (exact_sum f n).bottom (h n (omega arith)))

  -- and loads that are each at most one part more than that are together at most n parts more
  sum_near : (n : ℕ) → ((i : ℕ) → i < n → load i * (f i).bottom ≤ s * (f i).top + (f i).bottom)
      → sum_to load n * (exact_sum f n).bottom ≤ s * (exact_sum f n).top + n * (exact_sum f n).bottom
  unfolding exact_sum sum_to
  sum_near zero h = omega arith
  sum_near (suc n) h =
      let before = sum_near n (λ i l. h i (omega arith)) in
      omega (arith, mul-le-mul_right (f n).bottom before, mul-le-mul_right (exact_sum f n).bottom (h n (omega arith)))

  -- where each is less than one part more, they are together less than n parts more
  sum_less : (n : ℕ) → ((i : ℕ) → i < suc n → 0 < (f i).bottom) → ((i : ℕ) → i < suc n → load i * (f i).bottom < s * (f i).top + (f i).bottom)
      → sum_to load (suc n) * (exact_sum f (suc n)).bottom < s * (exact_sum f (suc n)).top + suc n * (exact_sum f (suc n)).bottom
  unfolding exact_sum sum_to
  sum_less n some h =
      let before = sum_near n (λ i l. omega (arith, h i (omega arith))) in
      let last = mul-lt-mul_of_pos_right (h n (omega arith)) (bottom-some f n (λ i l. some i (omega arith))) in
      omega (arith, mul-le-mul_right (f n).bottom before, last)

  -- so loads are at most a whole number of parts where s times the exact sum stays n − 1 parts below it
  pub sum-within : (n whole : ℕ) → n ≤ whole → ((i : ℕ) → i < n → 0 < (f i).bottom) → ((i : ℕ) → i < n → load i * (f i).bottom < s * (f i).top + (f i).bottom)
      → s * (exact_sum f n).top ≤ (whole - (n - 1)) * (exact_sum f n).bottom → sum_to load n ≤ whole
  unfolding sum_to
  sum-within zero whole few some h below = omega arith
  sum-within (suc n) whole few some h below =
      let bottom = (exact_sum f (suc n)).bottom in
      let split : whole - (suc n - 1) + suc n ≡ whole + 1 = omega arith in
      let less : sum_to load (suc n) * bottom < (whole + 1) * bottom = omega (arith, sum_less n some h, ap (λ (x : ℕ). x * bottom) split) in
      let fewer : sum_to load (suc n) < whole + 1 = lt_of_mul-lt-mul_right bottom less in
      omega arith
