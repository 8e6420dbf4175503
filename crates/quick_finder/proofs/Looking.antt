-- A search, look by look: what has failed so far, and how it ends.
-- Assumes nothing.
use Rattle.ground.proofs.Kit.{ℕ, zero, suc, ◌+◌, ◌≤◌, ◌<◌, Bool, true, false, ◌≡◌, refl, arith, Some, None}
use Rattle.ground.specs.Folds.{max_to}
use Rattle.ground.specs.Least.{LeastAt}
use Rattle.ground.proofs.Cases.{by_le, true-false}
use Rattle.ground.proofs.Folds.{le-max-to, max-to-le}
use Rattle.ground.proofs.Least.{least-is, least-unique}
use Rattle.policy.specs.declared.Weights.{Weights}
use Rattle.policy.specs.Looks.{distinct_below, looks_for}
use Rattle.policy.specs.Weighed.{weighed_at}
use Rattle.springs.specs.declared.Spring.{Spring}
use Rattle.springs.specs.Spring.{saturations}
use Rattle.division.specs.Next.{Next}
use Rattle.division.specs.Division.{divided}
use Rattle.division.proofs.Stretches.{weighed-rising, fails-before, divided-least, divided-most}
use Rattle.quick_finder.specs.Handover.{SearchEnds}
use Rattle.quick_finder.proofs.Counts.{below-same, below_next, below-most, below_one, below_all}

-- all steps looked at have failed, the last of them p; one look was at step 0, and one at each distinct saturation step up to p
pub record Failed (test : ℕ → Bool) (saturation : ℕ → ℕ) (n p looks : ℕ) : Type 0 where
  pub failed : test p ≡ false
  pub count : looks ≡ 1 + distinct_below saturation n (p + 1)

looks-above : (s : ℕ → ℕ) (n k : ℕ) → 0 < k → looks_for s n (Some k) ≡ 2 + distinct_below s n k
looks-above s n zero h = absurd (omega arith)
looks-above s n (suc k) h = refl

module _ (w : Weights) (springs : ℕ → Spring) (n : ℕ) where
  -- the first look passes
  pub ends-at-zero : (looks : ℕ) → looks ≡ 1 → weighed_at w springs n 0 ≡ true
      → SearchEnds (weighed_at w springs n) (saturations springs) n (record { step = Some 0; looks = looks })
  ends-at-zero looks c t =
      record {
        least =
            least-unique (weighed_at w springs n) (max_to (saturations springs) n) (Some 0) _
            (record { within = omega arith; passes = t; before = λ j l. absurd (omega arith) })
            (least-is (weighed_at w springs n) (max_to (saturations springs) n));
        count = c;
      }

  -- the first look fails
  pub failed-at-zero : (looks : ℕ) → looks ≡ 1 → weighed_at w springs n 0 ≡ false → Failed (weighed_at w springs n) (saturations springs) n 0 looks
  failed-at-zero looks c f = record { failed = f; count = omega (arith, below_one (saturations springs) n) }

  module _ (p looks : ℕ) (k : Failed (weighed_at w springs n) (saturations springs) n p looks) where
    fails-up-to : (j : ℕ) → j ≤ p → weighed_at w springs n j ≡ false
    fails-up-to j h = fails-before (weighed_at w springs n) (weighed-rising w springs n) p j k.failed h

    -- no further look is due
    pub ends_nowhere : ((i : ℕ) → i < n → saturations springs i ≤ p)
        → SearchEnds (weighed_at w springs n) (saturations springs) n (record { step = None; looks = looks })
    ends_nowhere h =
        record {
          least =
              least-unique (weighed_at w springs n) (max_to (saturations springs) n) None _
              (λ j l. fails-up-to j (omega (arith, max-to-le (saturations springs) n p h)))
              (least-is (weighed_at w springs n) (max_to (saturations springs) n));
          count = omega (arith, k.count, below_all (saturations springs) n p h);
        }

    module _ (q : ℕ) (x : Next (saturations springs) n p q) where
      -- a further look fails
      pub failed-next : weighed_at w springs n q ≡ false → Failed (weighed_at w springs n) (saturations springs) n q (looks + 1)
      failed-next f = record { failed = f; count = omega (arith, k.count, below_next (saturations springs) n p q x) }

      -- a further look passes: the division has the step
      pub ends-divided : weighed_at w springs n q ≡ true
          → SearchEnds (weighed_at w springs n) (saturations springs) n (record { step = Some (divided w springs n p q); looks = looks + 1 })
      ends-divided t =
          let K = max_to (saturations springs) n in
          let l : LeastAt (weighed_at w springs n) K (divided w springs n p q) =
          divided-least w springs n K p q (omega (arith, x.is, le-max-to (saturations springs) n x.by x.by-below)) x k.failed t in
          let above : p < divided w springs n p q =
          by_le (divided w springs n p q) p (λ h. true-false l.passes (fails-up-to _ h)) (λ h. h) in
          let same = below-same (saturations springs) n p q (divided w springs n p q) x.least above (divided-most w springs n p q) in
          record {
            least = least-unique (weighed_at w springs n) K (Some (divided w springs n p q)) _ l (least-is (weighed_at w springs n) K);
            count = omega (arith, k.count, same, looks-above (saturations springs) n (divided w springs n p q) (omega arith));
          }

      -- each further look leaves fewer
      pub looks-left : looks ≤ n
      looks-left = omega (arith, k.count, below_next (saturations springs) n p q x, below-most (saturations springs) n (q + 1))
