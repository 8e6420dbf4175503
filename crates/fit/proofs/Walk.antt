-- The walk over the tasks with the walk over the processors inside it.
-- Assumes nothing.
use Rattle.ground.proofs.Kit.{ℕ, ◌+◌, ◌≤◌, ◌<◌, false, List, ◌++◌, ◌≡◌, refl, ◌∙◌, ap, add-one, arith, eqb, leb, length, get_or, set, drop, replicate}
use Rattle.ground.proofs.Kit.{length-set, le-leb, lt-leb}
use Rattle.ground.proofs.First.{first-here, first-none, first_more}
use Rattle.ground.proofs.Buffer.{list-none, list-more}
use Rattle.kinds.specs.Limits.{scale, most_tasks, most_processors}
use Rattle.fit.specs.Fit.{has_room, lowest_room, loads_after, place_at, stuck_at, fits, places_to}
use Rattle.fit.specs.Handover.{FitIs}
use Rattle.fit.proofs.Placing.{after_more}

-- the walk has placed the first i tasks
pub record Placed (m : ℕ) (load : ℕ → ℕ) (n : ℕ) (loads places : List ℕ) (i : ℕ) : Type 0 where
  pub at : i ≤ n
  pub loads-are : loads ≡ loads_after m load i
  pub loads-long : length loads ≡ most_processors
  pub places-are : places ≡ places_to m load i ++ drop i (replicate most_tasks 0)
  pub places-long : length places ≡ most_tasks
  pub none_stuck : (x : ℕ) → x < i → leb m (place_at m load x) ≡ false

-- the inner walk has passed j processors, none of which has room
pub record Passed (m : ℕ) (loads : List ℕ) (load j : ℕ) : Type 0 where
  pub at : j ≤ m
  pub no_room : (x : ℕ) → x < j → has_room loads load x ≡ false

pub passed_none : (m : ℕ) (loads : List ℕ) (load : ℕ) → Passed m loads load 0
passed_none m loads load = record { at = omega arith; no_room = λ x l. absurd (omega arith) }

pub passed-more : (m : ℕ) (loads : List ℕ) (load j : ℕ) → Passed m loads load j → j < m → scale < get_or loads j 0 + load → Passed m loads load (j + 1)
passed-more m loads load j p l h =
    record {
      at = omega arith;
      no_room = first_more (has_room loads load) m j p.no_room (lt-leb _ _ h);
    }

module _ (m : ℕ) (load : ℕ → ℕ) (n : ℕ) where
  pub placed-none : Placed m load n (replicate most_processors 0) (replicate most_tasks 0) 0
  unfolding loads_after places_to
  placed-none =
      record {
        at = omega arith;
        loads-are = refl;
        loads-long = refl;
        places-are = list-none (λ i. place_at m load i + 1) (replicate most_tasks 0);
        places-long = refl;
        none_stuck = λ x l. absurd (omega arith);
      }

  -- the trial ends at task i
  ended : (places : List ℕ) (i : ℕ) → i ≡ stuck_at m load n → places ≡ places_to m load i ++ drop i (replicate most_tasks 0)
      → FitIs m load n (record { placed = eqb i n; processors = places })
  unfolding fits
  ended places i e p = record { placed = ap (λ (x : ℕ). eqb x n) e; places = rw e at p }

  module _ (loads places : List ℕ) (i : ℕ) (w : Placed m load n loads places i) where
    -- no task is left
    pub placed-all : n ≤ i → FitIs m load n (record { placed = eqb i n; processors = places })
    unfolding stuck_at
    placed-all h =
        ended places i (first-none (λ x. leb m (place_at m load x)) n i w.none_stuck (omega (arith, w.at))) w.places-are

    module _ (h : i < n) (s : ℕ) (is : s ≡ load i) (j : ℕ) (p : Passed m loads s j) where
      -- the next task fits nowhere
      pub placed-stuck : m ≤ j → FitIs m load n (record { placed = eqb i n; processors = places })
      unfolding stuck_at place_at lowest_room
      placed-stuck g =
          let e : j ≡ place_at m load i =
          rw (is, w.loads-are) at (first-none (has_room loads s) m j p.no_room (omega (arith, p.at))) in
          ended places i (first-here (λ x. leb m (place_at m load x)) n i w.none_stuck h (le-leb m (place_at m load i) (omega arith))) w.places-are

      -- the next task goes to processor j
      pub placed-more : j < m → get_or loads j 0 + s ≤ scale → n ≤ most_tasks → Placed m load n (set loads j (get_or loads j 0 + s)) (set places i (j + 1)) (i + 1)
      unfolding place_at lowest_room places_to
      placed-more g f few =
          let e : j ≡ place_at m load i =
          rw (is, w.loads-are) at (first-here (has_room loads s) m j p.no_room g (le-leb _ _ f)) in
          record {
            at = omega arith;
            loads-are = rw (add-one i, after_more m load i, ← e, ← w.loads-are, ← is);
            loads-long = length-set loads j _ ∙ w.loads-long;
            places-are = list-more (λ x. place_at m load x + 1) i (j + 1) (replicate most_tasks 0) places (omega arith) (ap (λ (x : ℕ). x + 1) e) w.places-are;
            places-long = length-set places i _ ∙ w.places-long;
            none_stuck = first_more (λ x. leb m (place_at m load x)) n i w.none_stuck (lt-leb m (place_at m load i) (omega arith));
          }
