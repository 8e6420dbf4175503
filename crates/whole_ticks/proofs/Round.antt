-- Loads that m processors can share give the jobs of a round enough.
-- Assumes nothing.
use Rattle.ground.proofs.Kit.{ℕ, zero, suc, ◌+◌, ◌*◌, ◌/◌, ◌%◌, ◌≤◌, ◌<◌, Bool, ◌≡◌, sym, ap, mul-le-mul_right, arith, eqb, ltb, eq-eqb, ltb-true}
use native.Mathlib.Nat.{div-lt_iff_lt-mul, div-mul-le_self}
use Rattle.ground.specs.Choice.{pick}
use Rattle.ground.specs.Folds.{sum_to, prod_to}
use Rattle.ground.proofs.Cases.{by_bool, by_le}
use Rattle.ground.proofs.Folds.{sum-cong, sum-le}
use Rattle.ground.proofs.Products.{prod-pos}
use Rattle.fluid.specs.Fluid.{Shareable}
use Rattle.whole_ticks.specs.Cells.{Enough}
use Rattle.whole_ticks.specs.Round.{Round, round_parts}
use Rattle.whole_ticks.proofs.Sums.{sum-flat, sum-at}
use Rattle.whole_ticks.proofs.Stretches.{stretch-le, sum_rows, stretch-of, place_of}
use Rattle.whole_ticks.proofs.Choices.{pick-most}

-- each period goes into the product of them all a whole number of times
round-times : (period : ℕ → ℕ) (n i : ℕ) → i < n → (k : ℕ) × (prod_to period n ≡ k * period i)
unfolding prod_to
round-times period zero i l = absurd (omega arith)
round-times period (suc n) i l =
    by_le (suc i) n
    (λ o.
    let before = round-times period n i o in
    (before.0 * period n, omega (arith, ap (λ (x : ℕ). x * period n) before.1)))
    (λ o. let e : i ≡ n = omega arith in (prod_to period n, ap (λ (x : ℕ). prod_to period n * period x) (sym e)))

-- so the product is a round
pub round_is : (tasks : ℕ) (period : ℕ → ℕ) → ((i : ℕ) → i < tasks → 1 ≤ period i) → Round (prod_to period tasks) tasks period
round_is tasks period h = record { some = prod-pos period tasks h; periods = h; times = round-times period tasks }

module _ (round m S tasks : ℕ) (period load : ℕ → ℕ) (is : Round round tasks period) (share : Shareable m S tasks load) where
  -- a row is that of a task's job
  task-of : (r : ℕ) → r < tasks * round → r / round < tasks
  task-of r l = (div-lt_iff_lt-mul is.some).1 l

  -- a job that begins in the round ends in it
  pub ends : (i k : ℕ) → i < tasks → k * period i < round → k * period i + period i ≤ round
  ends i k o l =
      let n = is.times i o in
      by_le (suc k) n.0
      (λ q. omega (arith, mul-le-mul_right (period i) q, n.1))
      (λ q. absurd (omega (arith, mul-le-mul_right {m = n.0} {n = k} (period i) (omega arith), n.1)))

  -- the row of a job that begins in the round is given its load in each tick of its period
  row-enough : (i k : ℕ) → i < tasks → k * period i < round → load i * period i ≤ sum_to (λ t. pick (eqb (t / period i) k) (load i) 0) round
  row-enough i k o l =
      let each = sum-cong (λ x. pick (eqb ((k * period i + x) / period i) k) (load i) 0) (λ x. load i) (period i)
      (λ x q. ap (λ (b : Bool). pick b (load i) 0) (eq-eqb _ k (stretch-of k x (period i) q))) in
      let whole = stretch-le (λ t. pick (eqb (t / period i) k) (load i) 0) (k * period i) (period i) round (ends i k o l) in
      omega (arith, each, whole, sum-flat (load i) (period i))

  -- and in each tick one job of each task is given its load, so that all together are given no more than m processors
  pub round-enough : Enough (round_parts round m S tasks period load)
  unfolding round_parts
  round-enough =
      record {
        some = share.some;
        one = λ r l t o. omega (arith, share.one (r / round) (task-of r l), pick-most (eqb (t / period (r / round)) (r % round)) (load (r / round)));
        room = λ t l. omega (arith, column t, share.all);
        enough = λ r l. omega (arith, row (r / round) (r % round) (task-of r l));
      }
    where
      column : (t : ℕ) → sum_to (λ r. pick (eqb (t / period (r / round)) (r % round)) (load (r / round)) 0) (tasks * round) ≤ sum_to load tasks
      column t =
          let g : ℕ → ℕ = λ r. pick (eqb (t / period (r / round)) (r % round)) (load (r / round)) 0 in
          omega (
            arith,
            sum_rows g tasks round,
            sum-le (λ i. sum_to (λ k. g (i * round + k)) round) load tasks (λ i l.
                omega (
                  arith,
                  sum-at (t / period i) (load i) round,
                  sum-cong (λ k. g (i * round + k)) (λ k. pick (eqb (t / period i) k) (load i) 0) round (λ k o.
                      rw (stretch-of i k round o, place_of i k round o)),
                )),
          )

      row : (i k : ℕ) → i < tasks → pick (ltb (k * period i) round) (load i * period i / S) 0 * S ≤ sum_to (λ t. pick (eqb (t / period i) k) (load i) 0) round
      row i k o = by_bool (ltb (k * period i) round)
          (λ e. rw e (omega (arith, div-mul-le_self (load i * period i) S, row-enough i k o (ltb-true _ _ e))))
          (λ e. rw e (omega arith))
