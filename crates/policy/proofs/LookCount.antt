-- The looks that an answer calls for are at most tasks + 1.
-- Assumes nothing.
use Rattle.ground.specs.Least.{Step}
use Rattle.ground.proofs.Kit.{ℕ, zero, suc, ◌+◌, ◌≤◌, ◌<◌, Bool, false, not, List, ◌≡◌, refl, ap, ap₂, arith, eqb, ltb, le-ltb, Some, None}
use Rattle.ground.specs.Choice.{both}
use Rattle.ground.specs.Folds.{max_to}
use Rattle.ground.proofs.Cases.{by_bool}
use Rattle.ground.proofs.Folds.{max-reached, count-le, count-lt, count-cong, any-cong}
use Rattle.kinds.specs.declared.Task.{Task}
use Rattle.kinds.specs.declared.Policy.{Policy}
use Rattle.kinds.specs.Task.{at}
use Rattle.share.specs.Share.{saturation_at}
use Rattle.share.specs.Table.{full_compression}
use Rattle.policy.specs.Looks.{is_new, counts, distinct, distinct_below, looks_for, looks_of}
use Rattle.policy.specs.Passing.{least_step}
use Rattle.policy.proofs.Demand.{step-at}

-- a step that some saturation step reaches leaves that one uncounted
below-few : (s : ℕ → ℕ) (n k i : ℕ) → i < n → k ≤ s i → distinct_below s n k < n
unfolding distinct_below
below-few s n k i l h = count-lt (λ j. both (counts s j) (ltb (s j) k)) n i l (not-below (counts s i))
  where
    not-below : (b : Bool) → both b (ltb (s i) k) ≡ false
    not-below b = by_bool b (λ e. rw (e, le-ltb (s i) k h)) (λ e. rw e)

looks-few : (s : ℕ → ℕ) (n : ℕ) (step : Step) → ((k : ℕ) → step ≡ Some k → k ≤ max_to s n) → looks_for s n step ≤ n + 1
unfolding distinct
looks-few s n (Some zero) h = omega arith
looks-few s n (Some (suc k)) h =
    let r = max-reached s n k (omega (arith, h (suc k) refl)) in
    omega (arith, below-few s n (suc k) r.0 r.1 r.2)
looks-few s n None h = omega (arith, count-le (counts s) n)

-- demand 3: "with the count of looks that document 01 defines, at most tasks + 1"
pub looks-bound : (p : Policy) (m : ℕ) (load : ℕ → ℕ → ℕ) (rows : List Task) (n : ℕ)
    → looks_of rows n (least_step p m load n (full_compression rows n)) ≤ n + 1
unfolding looks_of full_compression
looks-bound p m load rows n =
    looks-few (λ i. saturation_at (at rows i)) n (least_step p m load n (full_compression rows n)) (λ k e. (step-at p m load n (full_compression rows n) k e).within)

-- the looks depend on the first n records only
module _ (f g : ℕ → ℕ) where
  new-same : (i : ℕ) → ((j : ℕ) → j ≤ i → f j ≡ g j) → is_new f i ≡ is_new g i
  unfolding is_new
  new-same i h =
      ap not (any-cong (λ j. eqb (f j) (f i)) (λ j. eqb (g j) (g i)) i (λ j l. ap₂ eqb (h j (omega arith)) (h i (omega arith))))

  module _ (n : ℕ) (h : (i : ℕ) → i < n → f i ≡ g i) where
    counts_same : (i : ℕ) → i < n → counts f i ≡ counts g i
    counts_same i l = ap₂ both (ap (ltb 0) (h i l)) (new-same i (λ j k. h j (omega arith)))

    pub for-same : (step : Step) → looks_for f n step ≡ looks_for g n step
    unfolding distinct distinct_below
    for-same (Some zero) = refl
    for-same (Some (suc k)) =
        ap (λ (x : ℕ). 2 + x) (count-cong _ _ n (λ i l. ap₂ both (counts_same i l) (ap (λ (x : ℕ). ltb x (suc k)) (h i l))))
    for-same None = ap (λ (x : ℕ). 1 + x) (count-cong _ _ n counts_same)
