-- How many jobs a task releases in a time: no more than the time's length over the period, rounded up.
-- Assumes nothing.
use Rattle.ground.proofs.Kit.{ℕ, zero, suc, ◌+◌, ◌*◌, ◌≤◌, ◌<◌, max, Bool, true, ◌≡◌, le_trans, mul-le-mul_right, arith, leb, ltb, leb-true, ltb-true}
use Rattle.ground.specs.Choice.{pick, both}
use Rattle.ground.specs.Folds.{sum_to, count_to}
use Rattle.ground.specs.Rounding.{ceil_div}
use Rattle.ground.proofs.Cases.{by_bool, both_true}
use Rattle.ground.proofs.Rounding.{ceil-over}
use Rattle.ground.proofs.Sums.{sum-counted}
use Rattle.schedule.specs.Jobs.{Jobs, Apart}

-- the job is released in the t ticks from a on
abbrev pub released_in : Jobs → ℕ → ℕ → ℕ → ℕ → Bool
released_in jobs a t i j = both (leb a (jobs.release i j)) (ltb (jobs.release i j) (a + t))

-- the same in words
released-in : (jobs : Jobs) (a t i j : ℕ) → released_in jobs a t i j ≡ true → (a ≤ jobs.release i j) × (jobs.release i j < a + t)
released-in jobs a t i j e =
    let tests = both_true (leb a (jobs.release i j)) (ltb (jobs.release i j) (a + t)) e in
    (leb-true _ _ tests.0, ltb-true _ _ tests.1)

module _ (jobs : Jobs) (apart : Apart jobs) (i : ℕ) (task : i < jobs.tasks) (a t : ℕ) where
  -- after so many releases from a on, the next is so many periods later
  spread : (m : ℕ) → a + count_to (released_in jobs a t i) m * jobs.period i ≤ max a (jobs.release i m)
  unfolding count_to
  spread zero = omega arith
  spread (suc m) =
      by_bool (released_in jobs a t i m)
      (λ e. rw e (omega (arith, spread m, released-in jobs a t i m e, apart.gap i task m)))
      (λ e. rw e (omega (arith, spread m, apart.gap i task m)))

  -- so there are at most t over the period of them, rounded up
  releases-most : (m : ℕ) → count_to (released_in jobs a t i) m ≤ ceil_div t (jobs.period i)
  unfolding count_to
  releases-most zero = omega arith
  releases-most (suc m) =
      by_bool (released_in jobs a t i m)
      (λ e. rw e (omega (arith, ceil-over t (jobs.period i) (count_to (released_in jobs a t i) m) (apart.some i task) (fewer m e))))
      (λ e. rw e (omega (arith, releases-most m)))
    where
      fewer : (m : ℕ) → released_in jobs a t i m ≡ true → count_to (released_in jobs a t i) m * jobs.period i < t
      fewer m e = omega (arith, spread m, released-in jobs a t i m e)

  -- and the work of these jobs is at most so many times the cost
  pub work-most : (cost : ℕ) → ((j : ℕ) → jobs.need i j ≤ cost) → (m : ℕ)
      → sum_to (λ j. pick (released_in jobs a t i j) (jobs.need i j) 0) m ≤ ceil_div t (jobs.period i) * cost
  work-most cost h m =
      le_trans (sum-counted (released_in jobs a t i) (jobs.need i) cost m (λ j l. h j)) (mul-le-mul_right cost (releases-most m))
