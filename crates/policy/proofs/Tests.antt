-- Passing: what document 01 prints, that it stays once reached, and the margin that goes with it.
-- Assumes nothing.
use Rattle.ground.proofs.Kit.{ℕ, suc, ◌+◌, ◌-◌, ◌*◌, ◌≤◌, ◌<◌, true, false, ◌≡◌, refl, sym, ◌∙◌, ap, ap₂, mul-le-mul_left, arith, leb, le-leb, leb-true}
use Rattle.ground.proofs.Kit.{leb-false}
use lib.IntN.{pos, negsuc, sub_ℕ}
use Rattle.ground.specs.Folds.{sum_to, max_to}
use Rattle.ground.specs.Least.{Rising}
use Rattle.ground.proofs.Cases.{by_bool, true-false}
use Rattle.ground.proofs.Folds.{sum-le, max_falls, sum-cong, max-cong}
use Rattle.kinds.specs.declared.Policy.{Policy}
use Rattle.kinds.specs.declared.Policy.TheVariants.{Pooled, GlobalEdf, GlobalRm, FirstFit, OneCoreRm, Further}
use Rattle.kinds.specs.Limits.{scale, most_processors}
use Rattle.kinds.specs.Policy.{is_weighed, is_first_fit, Served}
use Rattle.bound.specs.Bound.{bound_of}
use Rattle.fit.specs.Fit.{fits}
use Rattle.fit.proofs.Placing.{fits-within, fits-same}
use Rattle.policy.specs.declared.Weights.{Weights}
use Rattle.policy.specs.Sides.{left_side, right_side, left_of, weights_of, most_sum, margin_of}
use Rattle.policy.specs.Handover.{TotalIs}
use Rattle.policy.specs.Passing.{holds, passes, passes_at}
use Rattle.policy.proofs.OneForm.{one_left, one_right}
use Rattle.policy.proofs.Signed.{sub-le, sub-lt}

-- document 01's table, row by row
pub pooled-passes : (m : ℕ) (load : ℕ → ℕ) (n : ℕ) → passes Pooled m load n ≡ leb (sum_to load n) (m * scale)
unfolding passes
pooled-passes m load n = refl

pub global-edf-passes : (m : ℕ) (load : ℕ → ℕ) (n : ℕ) → passes GlobalEdf m load n ≡ leb (sum_to load n + (m - 1) * max_to load n) (m * scale)
unfolding passes
global-edf-passes m load n = refl

pub global-rm-passes : (m : ℕ) (load : ℕ → ℕ) (n : ℕ)
    → passes GlobalRm m load n ≡ leb (2 * sum_to load n + m * max_to load n) (m * scale + 2 * max_to load n)
unfolding passes
global-rm-passes m load n = refl

pub one-core-rm-passes : (m : ℕ) (load : ℕ → ℕ) (n : ℕ) → passes OneCoreRm m load n ≡ leb (sum_to load n) (bound_of n)
unfolding passes
one-core-rm-passes m load n = refl

pub first-fit-passes : (p : Policy) (m : ℕ) (load : ℕ → ℕ) (n : ℕ) → is_first_fit p ≡ true → passes p m load n ≡ fits m load n
unfolding passes
first-fit-passes Pooled m load n g = true-false g refl
first-fit-passes GlobalEdf m load n g = true-false g refl
first-fit-passes GlobalRm m load n g = true-false g refl
first-fit-passes FirstFit m load n g = refl
first-fit-passes OneCoreRm m load n g = true-false g refl
first-fit-passes (Further q) m load n g = true-false g refl

-- a policy that is weighed passes by its formula
pub passes-holds : (p : Policy) (m : ℕ) (load : ℕ → ℕ) (n : ℕ) → is_weighed p ≡ true → passes p m load n ≡ holds p m n (sum_to load n) (max_to load n)
unfolding passes
passes-holds Pooled m load n f = refl
passes-holds GlobalEdf m load n f = refl
passes-holds GlobalRm m load n f = true-false f refl
passes-holds FirstFit m load n f = true-false f refl
passes-holds OneCoreRm m load n f = refl
passes-holds (Further q) m load n f = true-false f refl

-- and in the one form
pub passes-weighed : (p : Policy) (m : ℕ) (load : ℕ → ℕ) (n : ℕ) → is_weighed p ≡ true
    → passes p m load n ≡ leb (left_of (weights_of p m n) (sum_to load n) (max_to load n)) (weights_of p m n).r
passes-weighed p m load n f =
    passes-holds p m load n f ∙ ap₂ leb (sym (one_left p m n (sum_to load n) (max_to load n) f)) (sym (one_right p m n (max_to load n) f))

-- the test holds of a smaller sum and max
pub test-stays : (w : Weights) (sum max sum' max' : ℕ) → sum' ≤ sum → max' ≤ max → left_of w sum max ≤ w.r → left_of w sum' max' ≤ w.r
test-stays w sum max sum' max' hs hx h = omega (arith, mul-le-mul_left w.b hx)

-- where loads pass, smaller ones do
pub passes-less : (p : Policy) (m : ℕ) (load less : ℕ → ℕ) (n : ℕ) → is_weighed p ≡ true → ((i : ℕ) → i < n → less i ≤ load i)
    → passes p m load n ≡ true → passes p m less n ≡ true
passes-less p m load less n f g t =
    passes-weighed p m less n f
    ∙ le-leb _ _
    (test-stays (weights_of p m n) (sum_to load n) (max_to load n) _ _
    (sum-le less load n g) (max_falls load less n g)
    (leb-true _ _ (sym (passes-weighed p m load n f) ∙ t)))

-- so passing of policies 1, 2 and 5 stays with the step, whatever m is, where no load rises
pub passes-rising : (p : Policy) (m : ℕ) (load : ℕ → ℕ → ℕ) (n : ℕ) → is_weighed p ≡ true
    → ((i : ℕ) → i < n → (j k : ℕ) → j ≤ k → load k i ≤ load j i) → Rising (passes_at p m load n)
passes-rising p m load n f falls j k h t = passes-less p m (load j) (load k) n f (λ i l. falls i l j k h) t

-- "It is negative when the step fails, zero at an exact fit."
pub margin-passes : (p : Policy) (m : ℕ) (load : ℕ → ℕ) (n : ℕ) → is_weighed p ≡ true → passes p m load n ≡ true
    → margin_of p m load n ≡ pos (right_side p m n (max_to load n) - left_side p m (sum_to load n) (max_to load n))
unfolding margin_of
margin-passes p m load n f t =
    sub-le _ _ (leb-true _ _ (sym (passes-holds p m load n f) ∙ t))

pub margin-fails : (p : Policy) (m : ℕ) (load : ℕ → ℕ) (n : ℕ) → is_weighed p ≡ true → passes p m load n ≡ false
    → margin_of p m load n ≡ negsuc (left_side p m (sum_to load n) (max_to load n) - suc (right_side p m n (max_to load n)))
unfolding margin_of
margin-fails p m load n f t =
    sub-lt _ _ (leb-false _ _ (sym (passes-holds p m load n f) ∙ t))

-- as the code works them out: from the weights, the sum and the max
module _ (p : Policy) (m : ℕ) (load : ℕ → ℕ) (n : ℕ) (w : Weights) (sum max l : ℕ) (f : is_weighed p ≡ true)
    (is : w ≡ weights_of p m n) (t : TotalIs load n sum max) (el : l ≡ left_of w sum max) where
  left-worked-out : l ≡ left_side p m (sum_to load n) (max_to load n)
  left-worked-out = rw (← t.added.is, ← t.max-is) (el ∙ (ap (λ (v : Weights). left_of v sum max) is ∙ one_left p m n sum max f))

  right-worked-out : w.r ≡ right_side p m n (max_to load n)
  right-worked-out = ap (λ (v : Weights). v.r) is ∙ one_right p m n (max_to load n) f

  pub passes-worked-out : leb l w.r ≡ passes p m load n
  passes-worked-out = ap₂ leb left-worked-out right-worked-out ∙ sym (passes-holds p m load n f)

  pub margin-worked-out : sub_ℕ w.r l ≡ margin_of p m load n
  unfolding margin_of
  margin-worked-out = ap₂ sub_ℕ right-worked-out left-worked-out

-- loads that add up to more than that pass under no policy that is served
pub passes-within : (p : Policy) (m : ℕ) (load : ℕ → ℕ) (n : ℕ) → m ≤ most_processors → Served p
    → passes p m load n ≡ true → sum_to load n ≤ most_sum p m n
unfolding passes
passes-within Pooled m load n few s t = leb-true (sum_to load n) (m * scale) t
passes-within GlobalEdf m load n few s t = omega (arith, leb-true (sum_to load n + (m - 1) * max_to load n) (m * scale) t)
passes-within GlobalRm m load n few s t = true-false (s refl) refl
passes-within FirstFit m load n few s t = omega (arith, fits-within m load n few t)
passes-within OneCoreRm m load n few s t = leb-true (sum_to load n) (bound_of n) t
passes-within (Further q) m load n few s t = true-false t refl

pub too_much : (p : Policy) (m : ℕ) (load : ℕ → ℕ) (n : ℕ) → m ≤ most_processors → Served p
    → most_sum p m n < sum_to load n → passes p m load n ≡ false
too_much p m load n few s h = by_bool (passes p m load n) (λ t. absurd (omega (arith, passes-within p m load n few s t))) (λ f. f)

-- passing and the margin look at the loads of the first n tasks only
holds_same : (p : Policy) (m : ℕ) (f g : ℕ → ℕ) (n : ℕ) → ((i : ℕ) → i < n → f i ≡ g i)
    → holds p m n (sum_to f n) (max_to f n) ≡ holds p m n (sum_to g n) (max_to g n)
holds_same p m f g n h = ap₂ (λ (s x : ℕ). holds p m n s x) (sum-cong f g n h) (max-cong f g n h)

pub passes_same : (p : Policy) (m : ℕ) (f g : ℕ → ℕ) (n : ℕ) → ((i : ℕ) → i < n → f i ≡ g i) → passes p m f n ≡ passes p m g n
unfolding passes
passes_same Pooled m f g n h = holds_same Pooled m f g n h
passes_same GlobalEdf m f g n h = holds_same GlobalEdf m f g n h
passes_same GlobalRm m f g n h = holds_same GlobalRm m f g n h
passes_same FirstFit m f g n h = fits-same m f g n h
passes_same OneCoreRm m f g n h = holds_same OneCoreRm m f g n h
passes_same (Further q) m f g n h = refl

pub margin-same : (p : Policy) (m : ℕ) (f g : ℕ → ℕ) (n : ℕ) → ((i : ℕ) → i < n → f i ≡ g i) → margin_of p m f n ≡ margin_of p m g n
unfolding margin_of
margin-same p m f g n h = ap₂ (λ (s x : ℕ). sub_ℕ (right_side p m n x) (left_side p m s x)) (sum-cong f g n h) (max-cong f g n h)
