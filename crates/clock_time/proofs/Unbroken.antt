-- The clock of unbroken time: what it hands back, and how its releases move on.
-- Assumes nothing.
use Rattle.ground.proofs.Kit.{ℕ, ◌+◌, ◌≤◌, ◌<◌, List, [], ◌∷◌, ◌≡◌, refl, arith, length, eq-eqb, ne_eqb}
use Rattle.ground.proofs.Cases.{by-eq}
use Rattle.ground.proofs.Folds.{le-max-to}
use Rattle.clock.specs.Start.{every}
use Rattle.clock.proofs.Greatest.{by-latest}
use Rattle.clock_time.specs.Time.{late_by, earliest, onward, onward_from}

-- task i is handed back: it is due, no release is earlier, and none of a lower record is as early
pub record Earliest (n : ℕ) (next : ℕ → ℕ) (t i : ℕ) : Type 0 where
  pub is : earliest n next t ≡ i ∷ []
  pub there : i < n
  pub due : next i ≤ t
  pub least : (j : ℕ) → j < n → next i ≤ next j
  pub first : (j : ℕ) → j < i → next i < next j

-- no task is due
pub record Idle (n : ℕ) (next : ℕ → ℕ) (t : ℕ) : Type 0 where
  pub is : earliest n next t ≡ []
  pub early : (i : ℕ) → i < n → t < next i

-- one or the other
pub by-earliest : {X : Type 0} (n : ℕ) (next : ℕ → ℕ) (t : ℕ) → (Idle n next t → X) → ((i : ℕ) → Earliest n next t i → X) → X
unfolding earliest
by-earliest n next t none one =
    by-latest (late_by next t) n
    (λ e z. none (record { is = e; early = λ i l. omega (arith, z i l) }))
    (λ i e h m. one i (record {
      is = e;
      there = m.there;
      due = omega arith;
      least = λ j l. omega (arith, m.greatest, le-max-to (late_by next t) n j l);
      first = λ j l. omega (arith, m.greatest, m.lowest j l);
    }))

module _ (period next : ℕ → ℕ) (i : ℕ) where
  pub onward-here : onward period next i i ≡ next i + period i
  unfolding onward
  onward-here = rw (eq-eqb i i refl)

  pub onward-other : (j : ℕ) → (i ≡ j → ⊥) → onward period next i j ≡ next j
  unfolding onward
  onward-other j d = rw (ne_eqb i j d)

  -- a release never goes back
  onward-up : (j : ℕ) → next j ≤ onward period next i j
  onward-up j = by-eq i j (λ e. rw (← e) (omega (arith, onward-here))) (λ d. omega (arith, onward-other j d))

pub after-up : (ps : List ℕ) (next : ℕ → ℕ) (t i : ℕ) → next i ≤ onward_from (every ps) next (earliest (length ps) next t) i
after-up ps next t i =
    by-earliest (length ps) next t (λ e. rw e.is (omega arith)) (λ w e. rw e.is (onward-up (every ps) next w i))
