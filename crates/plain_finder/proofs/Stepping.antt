-- The search on springs: under edition 1 it has come to step k, whose shares are the loads; and of either edition it is the search that demand 2
-- asks for.
-- Assumes nothing.
use Rattle.ground.specs.Least.{Step}
use Rattle.ground.proofs.Kit.{ℕ, ◌+◌, ◌≤◌, ◌<◌, Bool, true, false, List, ◌≡◌, sym, ◌∙◌, ap, arith, get_or, Some, None}
use Rattle.ground.specs.Folds.{sum_to, max_to}
use Rattle.ground.proofs.First.{first_more}
use Rattle.ground.proofs.Folds.{max-cong}
use Rattle.ground.proofs.Least.{least-here, least-none}
use Rattle.kinds.specs.declared.Task.{Task}
use Rattle.kinds.specs.declared.Policy.{Policy}
use Rattle.kinds.specs.declared.Settings.{Settings}
use Rattle.kinds.specs.Limits.{scale}
use Rattle.kinds.specs.Policy.{meant}
use Rattle.kinds.specs.Settings.{tests_charge}
use Rattle.kinds.specs.Task.{at}
use Rattle.share.specs.Share.{saturation_at}
use Rattle.share.specs.Table.{full_compression}
use Rattle.springs.specs.declared.Spring.{Spring}
use Rattle.springs.specs.declared.Springs.{Springs}
use Rattle.springs.specs.Spring.{share_on, let_down, shares_on, charges_on, loads_on}
use Rattle.springs.specs.Springs.{spring_in, full_in}
use Rattle.springs.specs.Handover.{Springy, Summed, Beside, Sprung}
use Rattle.springs.proofs.Shares.{carried, share-most}
use Rattle.springs.proofs.Columns.{beside_same, beside-more, springs-beside, springy-beside, loads-are}
use Rattle.fit.specs.Fit.{load_in}
use Rattle.fit.specs.Handover.{Loads}
use Rattle.policy.specs.Passing.{passes_at, least_step}
use Rattle.policy.specs.Passing as passing
use Rattle.policy.specs.Under.{rows_under, loads_under, least_under}
use Rattle.policy.proofs.Demand.{step_same}
use Rattle.policy.proofs.Tests.{passes_same}
use Rattle.policy.proofs.Weighing.{summed-loads}
use Rattle.plain_finder.specs.Handover.{Searched}

-- nothing but loads has moved, so full compression and a test of steps are the same
module _ (old new : Springs) (b : Beside old new) where
  pub full-beside : full_in new new.n ≡ full_in old old.n
  full-beside =
      ap (λ (f : ℕ → Spring). max_to (λ i. (f i).saturation) new.n) (springs-beside old new b)
      ∙ ap (λ (n : ℕ). max_to (λ i. (spring_in old i).saturation) n) b.count

  pub test-beside : (p : Policy) (m : ℕ) (load : (ℕ → Spring) → ℕ → ℕ → ℕ) (k : ℕ)
      → passes_at p m (load (spring_in new)) new.n k ≡ passes_at p m (load (spring_in old)) old.n k
  test-beside p m load k =
      ap (λ (f : ℕ → Spring). passes_at p m (load f) new.n k) (springs-beside old new b)
      ∙ ap (λ (n : ℕ). passes_at p m (load (spring_in old)) n k) b.count

-- no step before k passes, and the loads are the shares of step k, with their sum beside them
pub record Stepped (p : Policy) (m k sum : ℕ) (old now : Springs) : Type 0 where
  pub beside : Beside old now
  pub are : (i : ℕ) → i < old.n → load_in now.loads i ≡ share_on (spring_in old i) k
  pub added : sum ≡ sum_to (load_in now.loads) now.n
  pub before : (j : ℕ) → j < k → passes_at p m (shares_on (spring_in old)) old.n j ≡ false

-- it starts once the shares of step 0 are written
pub stepped-none : (p : Policy) (m : ℕ) (first now : Springs) (sum : ℕ) → Summed (shares_on (spring_in first) 0) first now sum → Stepped p m 0 sum now now
stepped-none p m first now sum w =
    record {
      beside = beside_same now;
      are = λ i l. rw (springs-beside first now w.loaded.beside) (w.loaded.are i (omega (arith, w.loaded.beside.count)));
      added = summed-loads _ first now sum w;
      before = λ j l. absurd (omega arith);
    }

-- and what it then finds is found on the springs as they came
pub searched-from : (p : Policy) (m : ℕ) (r : Step) (first old new : Springs) → Beside first old
    → Searched p m (shares_on (spring_in old)) r old new → Searched p m (shares_on (spring_in first)) r first new
searched-from p m r first old new b h =
    let step = ap (λ (f : ℕ → Spring). least_step p m (shares_on f) old.n (full_in old old.n)) (springs-beside first old b) in
    let count = ap (λ (n : ℕ). least_step p m (shares_on (spring_in first)) n (full_in old old.n)) b.count in
    let full = ap (least_step p m (shares_on (spring_in first)) first.n) (full-beside first old b) in
    record { least = h.least ∙ (step ∙ (count ∙ full)); beside = beside-more first old new b h.beside }

module _ (p : Policy) (m : ℕ) (old : Springs) where
  module _ (k sum : ℕ) (now : Springs) (w : Stepped p m k sum old now) where
    -- no step to full compression passes
    pub stepped-past : full_in old old.n < k → Searched p m (shares_on (spring_in old)) None old now
    unfolding least_step
    stepped-past h = record { least = least-none (passes_at p m (shares_on (spring_in old)) old.n) _ k w.before (omega arith); beside = w.beside }

    -- what is asked of springs and their loads is true of these
    module _ (s : Springy old) where
      pub stepped-springy : Springy now
      stepped-springy = springy-beside old now w.beside s

      pub stepped-most : (i : ℕ) → i < now.n → load_in now.loads i ≤ scale
      stepped-most i l =
          let h : i < old.n = omega (arith, w.beside.count) in
          rw (w.are i h) (share-most (spring_in old i) (s i h) k)

      pub stepped-loads : Loads now.loads now.n
      stepped-loads = record { few = now.few; most = stepped-most }

    -- the test on the loads is the test of step k
    tested : (b : Bool) → b ≡ passing.passes p m (load_in now.loads) now.n → b ≡ passes_at p m (shares_on (spring_in old)) old.n k
    tested b e =
        e
        ∙ ap (λ (n : ℕ). passing.passes p m (load_in now.loads) n) w.beside.count
        ∙ passes_same p m (load_in now.loads) (shares_on (spring_in old) k) old.n w.are

    module _ (b : Bool) (e : b ≡ passing.passes p m (load_in now.loads) now.n) where
      pub stepped-here : b ≡ true → k ≤ full_in old old.n → Searched p m (shares_on (spring_in old)) (Some k) old now
      unfolding least_step
      stepped-here t l = record { least = least-here (passes_at p m (shares_on (spring_in old)) old.n) _ k w.before l (sym (tested b e) ∙ t); beside = w.beside }

      module _ (t : b ≡ false) where
        -- no step up to k passes
        failed : (j : ℕ) → j < k + 1 → passes_at p m (shares_on (spring_in old)) old.n j ≡ false
        failed = first_more (passes_at p m (shares_on (spring_in old)) old.n) 0 k w.before (sym (tested b e) ∙ t)

        pub stepped-more : (next : Springs) (added : ℕ) → Summed (λ i. let_down (spring_in now i) (get_or now.loads i 0)) now next added
            → Stepped p m (k + 1) added old next
        stepped-more next added g =
            record {
              beside = beside-more old now next w.beside g.loaded.beside;
              are = λ i l. g.loaded.are i (omega (arith, w.beside.count)) ∙ let-down i l;
              added = summed-loads _ now next added g;
              before = failed;
            }
          where
            let-down : (i : ℕ) → i < old.n → let_down (spring_in now i) (get_or now.loads i 0) ≡ share_on (spring_in old i) (k + 1)
            let-down i l = rw (springs-beside old now w.beside, w.are i l) (carried (spring_in old i) k)

-- what either edition finds is found on its loads
module _ (s : Settings) (p : Policy) (m : ℕ) (r : Step) (old new : Springs) where
  pub as_first : tests_charge s ≡ false → Searched p m (shares_on (spring_in old)) r old new → Searched p m (loads_on s (spring_in old)) r old new
  as_first e h =
      record {
        least = h.least ∙ step_same p m (shares_on (spring_in old)) (loads_on s (spring_in old)) old.n (full_in old old.n) (λ k i l. rw e);
        beside = h.beside;
      }

  pub as-second : s.notch ≡ old.notch → tests_charge s ≡ true → Searched p m (charges_on old.notch (spring_in old)) r old new
      → Searched p m (loads_on s (spring_in old)) r old new
  as-second notch e h =
      record {
        least = h.least ∙ step_same p m (charges_on old.notch (spring_in old)) (loads_on s (spring_in old)) old.n (full_in old old.n) (λ k i l. rw (e, notch));
        beside = h.beside;
      }

-- on the springs of a table it is the step that demand 2 asks for
module _ (s : Settings) (rows : List Task) (n : ℕ) (old new : Springs) (w : Sprung (rows_under s rows n) n old) (r : Step)
    (h : Searched (meant s.policy) s.m (loads_on s (spring_in old)) r old new) where
  pub step-found : r ≡ least_under s rows n
  unfolding full_compression
  step-found =
      let paid = rows_under s rows n in
      let load = loads_on s (spring_in old) in
      let saturates : (i : ℕ) → i < n → (spring_in old i).saturation ≡ saturation_at (at paid i) = λ i l. ap (λ (x : Spring). x.saturation) (w.springs i l) in
      h.least
      ∙ (ap (λ (x : ℕ). least_step (meant s.policy) s.m load x (full_in old x)) w.count
      ∙ (step_same (meant s.policy) s.m load (loads_under s rows n) n _ (loads-are paid n old w s)
      ∙ ap (least_step (meant s.policy) s.m (loads_under s rows n) n)
      (max-cong (λ i. (spring_in old i).saturation) (λ i. saturation_at (at paid i)) n saturates)))
