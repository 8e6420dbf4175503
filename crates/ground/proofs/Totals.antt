-- Laws of sums over pairs, each from the law of a sum over numbers.
-- Assumes nothing.
use Rattle.ground.proofs.Kit.{ℕ, ◌+◌, ◌*◌, ◌≤◌, ◌<◌, Bool, true, ◌≡◌, refl, arith}
use Rattle.ground.specs.Choice.{bit}
use Rattle.ground.specs.Folds.{sum_to}
use Rattle.ground.specs.Total.{total}
use Rattle.ground.proofs.Folds.{sum-le, sum-line, sum-most, term-le-sum}
use Rattle.ground.proofs.Tests.{bit-some, bit-most}
use Rattle.ground.proofs.Sums.{sum-gap, sum-larger, sum-wider, sum-some, sum_one}

module _ (rows columns : ℕ) where
  -- no number is larger: nor is the total
  pub total-le : (f g : ℕ → ℕ → ℕ) → ((i : ℕ) → i < rows → (j : ℕ) → j < columns → f i j ≤ g i j) → total rows columns f ≤ total rows columns g
  unfolding total
  total-le f g h = sum-le (λ i. sum_to (f i) columns) (λ i. sum_to (g i) columns) rows (λ i l. sum-le (f i) (g i) columns (h i l))

  -- numbers that rise by c times a slope: the total rises by c times the total of the slopes
  pub total-line : (f g slope : ℕ → ℕ → ℕ) (c : ℕ) → ((i : ℕ) → i < rows → (j : ℕ) → j < columns → f i j ≡ g i j + c * slope i j)
      → total rows columns f ≡ total rows columns g + c * total rows columns slope
  unfolding total
  total-line f g slope c h =
      sum-line (λ i. sum_to (f i) columns) (λ i. sum_to (g i) columns) (λ i. sum_to (slope i) columns) c rows
      (λ i l. sum-line (f i) (g i) (slope i) c columns (h i l))

  -- no number is larger than the total
  pub term-le-total : (f : ℕ → ℕ → ℕ) (i : ℕ) → i < rows → (j : ℕ) → j < columns → f i j ≤ total rows columns f
  unfolding total
  term-le-total f i l j m = omega (arith, term-le-sum (f i) columns j m, term-le-sum (λ k. sum_to (f k) columns) rows i l)

  -- a total that is larger is larger at some pair
  pub total-larger : (f g : ℕ → ℕ → ℕ) → total rows columns f < total rows columns g
      → (i : ℕ) × (j : ℕ) × (i < rows) × (j < columns) × (f i j < g i j)
  unfolding total
  total-larger f g h =
      let outer = sum-larger (λ i. sum_to (f i) columns) (λ i. sum_to (g i) columns) rows h in
      let inner = sum-larger (f outer.0) (g outer.0) columns outer.2 in
      (outer.0, inner.0, outer.1, inner.1, inner.2)

  -- one pair's gap is no larger than the gap of the totals, where no number is smaller
  pub total-gap : (f g : ℕ → ℕ → ℕ) → ((i : ℕ) → i < rows → (j : ℕ) → j < columns → f i j ≤ g i j)
      → (i : ℕ) → i < rows → (j : ℕ) → j < columns → total rows columns f + g i j ≤ total rows columns g + f i j
  unfolding total
  total-gap f g h i l j m =
      let outer = sum-gap (λ k. sum_to (f k) columns) (λ k. sum_to (g k) columns) rows (λ k o. sum-le (f k) (g k) columns (h k o)) i l in
      omega (arith, outer, sum-gap (f i) (g i) columns (h i l) j m)

  -- a total over more columns is no smaller
  pub total-wider : (f : ℕ → ℕ → ℕ) (more : ℕ) → columns ≤ more → total rows columns f ≤ total rows more f
  unfolding total
  total-wider f more h = sum-le (λ i. sum_to (f i) columns) (λ i. sum_to (f i) more) rows (λ i l. sum-wider (f i) columns more h)

  -- numbers that are all 0
  pub total-none : (f : ℕ → ℕ → ℕ) → ((i j : ℕ) → f i j ≡ 0) → total rows columns f ≡ 0
  unfolding total
  total-none f h =
      let most = sum-most (λ i. sum_to (f i) columns) rows 0 (λ i l. omega (arith, sum-most (f i) columns 0 (λ j o. omega (arith, h i j)))) in
      omega (arith, most)

  -- a test that holds at one pair at most
  pub total-one : (test : ℕ → ℕ → Bool)
      → ((i : ℕ) → i < rows → (j : ℕ) → j < columns → (a : ℕ) → a < rows → (b : ℕ) → b < columns → test i j ≡ true → test a b ≡ true → (i ≡ a) × (j ≡ b))
      → total rows columns (λ i j. bit (test i j)) ≤ 1
  unfolding total
  total-one test u =
      sum_one (λ i. sum_to (λ j. bit (test i j)) columns) rows
      (λ i l. sum_one (λ j. bit (test i j)) columns
      (λ j m. bit-most (test i j))
      (λ j b m o p q. (u i l j m i l b o (bit-some _ p) (bit-some _ q)).1))
      (λ i a l k p q.
      let x = sum-some (λ j. bit (test i j)) columns p in
      let y = sum-some (λ j. bit (test a j)) columns q in
      (u i l x.0 x.1 a k y.0 y.1 (bit-some _ x.2) (bit-some _ y.2)).0)

  -- a test that counts at all holds at some pair
  pub total-some : (test : ℕ → ℕ → Bool) → 1 ≤ total rows columns (λ i j. bit (test i j))
      → (i : ℕ) × (j : ℕ) × (i < rows) × (j < columns) × (test i j ≡ true)
  total-some test h =
      let none = total-none (λ i j. 0) (λ i j. refl) in
      let at = total-larger (λ i j. 0) (λ i j. bit (test i j)) (omega arith) in
      (at.0, at.1, at.2, at.3, bit-some _ at.4)
