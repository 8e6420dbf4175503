-- What the wrap gives: each task has as many parts of a tick as its load is, and in each part at most m tasks have one.
-- Assumes nothing.
use Rattle.ground.proofs.Kit.{ℕ, zero, suc, ◌+◌, ◌*◌, ◌≤◌, ◌<◌, Bool, true, false, ◌≡◌, arith}
use Rattle.ground.specs.Choice.{bit, either}
use Rattle.ground.specs.Folds.{sum_to, count_to, any_to}
use Rattle.ground.proofs.Cases.{by_le}
use Rattle.ground.proofs.Folds.{sum-le, sum-most}
use Rattle.ground.proofs.Tests.{bit-some, bit-most}
use Rattle.ground.proofs.Sums.{sum-plus, sum-wider, sum_one}
use Rattle.fluid.specs.Wrapped.{is_under, has_part}
use Rattle.fluid.proofs.Line.{in-found, wraps}

-- either test counts for no more than both
either-bits : (p q : Bool) → bit (either p q) ≤ bit p + bit q
either-bits true q = omega arith
either-bits false q = omega arith

module _ (load : ℕ → ℕ) (S : ℕ) where
  -- the loads before task i and its own are among those of the first n
  own-end : (n i : ℕ) → i < n → sum_to load i + load i ≤ sum_to load n
  unfolding sum_to
  own-end n i l = sum-wider load (suc i) n l

  -- a task whose load is at most a processor has its load of parts, where all the loads fit the line
  pub load-had : (m n i : ℕ) → i < n → load i ≤ S → sum_to load n ≤ m * S → count_to (has_part load S m i) S ≡ load i
  load-had m n i l short fits = omega (arith, wraps (sum_to load i) (sum_to load i + load i) S (omega arith) m, own-end n i l)

  -- part q of processor p is laid under one task at most
  one-task : (p q n : ℕ) → sum_to (λ i. bit (is_under load S q i p)) n ≤ 1
  one-task p q n =
      sum_one (λ i. bit (is_under load S q i p)) n
      (λ i l. bit-most (is_under load S q i p))
      (λ i k l h u v.
      let x = in-found _ _ (p * S + q) (bit-some (is_under load S q i p) u) in
      let y = in-found _ _ (p * S + q) (bit-some (is_under load S q k p) v) in
      by_le i k
      (λ o. by_le k i (λ r. omega arith) (λ less. absurd (omega (arith, own-end k i less, x, y))))
      (λ less. absurd (omega (arith, own-end i k less, x, y))))

  -- so of p processors at most p tasks have part q
  pub tasks-most : (q n p : ℕ) → sum_to (λ i. bit (has_part load S p i q)) n ≤ p
  unfolding any_to
  tasks-most q n zero = omega (arith, sum-most (λ i. 0) n 0 (λ i l. omega arith))
  tasks-most q n (suc p) =
      let earlier : ℕ → ℕ = λ i. bit (has_part load S p i q) in
      let here : ℕ → ℕ = λ i. bit (is_under load S q i p) in
      omega (
        arith,
        sum-le (λ i. bit (has_part load S (suc p) i q)) (λ i. earlier i + here i) n (λ i l. either-bits (has_part load S p i q) (is_under load S q i p)),
        sum-plus earlier here n,
        tasks-most q n p,
        one-task p q n,
      )
