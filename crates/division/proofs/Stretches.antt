-- The division gives the least passing step of a stretch whose first step fails and whose last one, the next saturation step, passes.
-- Assumes nothing.
use Rattle.ground.proofs.Kit.{ℕ, zero, suc, ◌+◌, ◌-◌, ◌*◌, ◌≤◌, ◌<◌, max, min, Bool, true, false, ◌≡◌, refl, add-one, arith, le-leb, leb-true}
use mathlib.Core.Logic.{◌↔◌}
use native.Mathlib.Nat.{min-eq_left, min-eq_right}
use Rattle.ground.specs.Folds.{sum_to, max_to}
use Rattle.ground.specs.Least.{LeastAt, Rising}
use Rattle.ground.proofs.Cases.{by_le, true-false, false_of}
use Rattle.ground.proofs.Folds.{sum-line, term-le-sum}
use Rattle.policy.specs.declared.Weights.{Weights}
use Rattle.policy.specs.Sides.{left_of}
use Rattle.policy.specs.Weighed.{weighed, weighed_at}
use Rattle.policy.proofs.Weighing.{weighed-stays}
use Rattle.springs.specs.declared.Spring.{Spring}
use Rattle.springs.specs.Spring.{share_on, saturation_on, shares_on, saturations}
use Rattle.springs.proofs.Shares.{shares-fall}
use Rattle.division.specs.Next.{Next}
use Rattle.division.specs.Division.{slope, slope_sum, need, need_to, divided}
use Rattle.division.proofs.Lines.{share-line, slope-some, need-iff, need-flat, both_ways}

need-to-iff : (w : Weights) (springs : ℕ → Spring) (p q j sum sum' fall n : ℕ) → 0 < fall → sum ≡ sum' + j * fall → p + j < q
    → ((i : ℕ) → i < n → p < saturation_on (springs i) → q ≤ saturation_on (springs i))
    → (need_to w springs p sum fall n ≤ j) ↔ (left_of w sum' (max_to (shares_on springs (p + j)) n) ≤ w.r)
unfolding need_to max_to
need-to-iff w springs p q j sum sum' fall zero pos es l hq = need-iff w sum sum' 0 0 fall 0 j pos es (omega arith)
need-to-iff w springs p q j sum sum' fall (suc n) pos es l hq =
    both_ways w sum' _ _ j _ _
    (need-to-iff w springs p q j sum sum' fall n pos es l (λ i m. hq i (omega arith)))
    (need-iff w sum sum' _ _ fall _ j pos es (share-line (springs n) p q j (hq n (omega arith)) l))

slope-within : (springs : ℕ → Spring) (n p i : ℕ) → i < n → slope (springs i) p ≤ slope_sum springs n p
slope-within springs n p i l = term-le-sum (λ i. slope (springs i) p) n i l

-- where a saturation step is ahead, something falls
pub something-falls : (springs : ℕ → Spring) (n p q : ℕ) → Next (saturations springs) n p q → 0 < slope_sum springs n p
something-falls springs n p q x =
    omega (arith, slope-some (springs x.by) p (omega (arith, x.is, x.above)), slope-within springs n p x.by x.by-below)

-- inside a stretch the test holds from the needed step on
stretch : (w : Weights) (springs : ℕ → Spring) (n p q j : ℕ) → Next (saturations springs) n p q → p + j < q
    → (need_to w springs p (sum_to (shares_on springs p) n) (slope_sum springs n p) n ≤ j) ↔ (weighed_at w springs n (p + j) ≡ true)
unfolding weighed
stretch w springs n p q j x l =
    let t : _ ↔ _ =
    need-to-iff w springs p q j _ (sum_to (shares_on springs (p + j)) n) _ n (something-falls springs n p q x)
    (sum-line _ _ _ j n (λ i m. share-line (springs i) p q j (x.least i m) l)) l
    x.least in
    (λ h. le-leb _ _ (t.0 h), λ h. t.1 (leb-true _ _ h))

-- the test stays once it holds
pub weighed-rising : (w : Weights) (springs : ℕ → Spring) (n : ℕ) → Rising (weighed_at w springs n)
weighed-rising w springs n j k h t = weighed-stays w (shares_on springs j) (shares_on springs k) n (λ i l. shares-fall (springs i) j k h) t

-- what fails fails at every earlier step
pub fails-before : (test : ℕ → Bool) → Rising test → (p k : ℕ) → test p ≡ false → k ≤ p → test k ≡ false
fails-before test up p k f h = false_of _ (λ t. true-false (up k p h t) f)

-- a test that fails up to p, passes at q, and between the two passes from p + N on
least_by : (test : ℕ → Bool) (K p q N : ℕ) → p < q → q ≤ K → ((k : ℕ) → k ≤ p → test k ≡ false) → test q ≡ true
    → ((j : ℕ) → p + j < q → (N ≤ j) ↔ (test (p + j) ≡ true)) → LeastAt test K (min q (p + N))
least_by test K p q N pq qK f t e =
    by_le q (p + N)
    (λ h. rw (min-eq_left h) (record { within = qK; passes = t; before = λ k l. fails k l (omega arith) }))
    (λ h. let h' : p + N ≤ q = omega arith in
    rw (min-eq_right h') (record { within = omega arith; passes = (e N h).0 (omega arith); before = λ k l. fails k (omega arith) l }))
  where
    fails : (k : ℕ) → k < q → k < p + N → test k ≡ false
    fails k l m =
        by_le k p (f k) (λ h.
        let z : p + (k - p) ≡ k = omega arith in
        false_of (test k) (λ u. absurd (omega (arith, (e (k - p) (omega arith)).1 (rw z u)))))

pub divided-least : (w : Weights) (springs : ℕ → Spring) (n K p q : ℕ) → q ≤ K → Next (saturations springs) n p q
    → weighed_at w springs n p ≡ false → weighed_at w springs n q ≡ true → LeastAt (weighed_at w springs n) K (divided w springs n p q)
unfolding divided
divided-least w springs n K p q h x f t =
    least_by (weighed_at w springs n) K p q _ x.above h
    (λ k l. fails-before (weighed_at w springs n) (weighed-rising w springs n) p k f l) t (λ j l. stretch w springs n p q j x l)

pub divided-most : (w : Weights) (springs : ℕ → Spring) (n p q : ℕ) → divided w springs n p q ≤ q
unfolding divided
divided-most w springs n p q = omega arith

-- the walks of the division, where the code has i + 1
pub need-none : (w : Weights) (springs : ℕ → Spring) (p sum fall : ℕ) → need_to w springs p sum fall 0 ≡ need w sum fall 0 0
unfolding need_to
need-none w springs p sum fall = refl

-- where the max does not count
pub need-flatly : (w : Weights) (springs : ℕ → Spring) (p sum fall n : ℕ) → w.b ≡ 0 → need_to w springs p sum fall n ≡ need w sum fall 0 0
unfolding need_to
need-flatly w springs p sum fall zero e = refl
need-flatly w springs p sum fall (suc n) e =
    omega (arith, need-flatly w springs p sum fall n e, need-flat w sum fall (share_on (springs n) p) (slope (springs n) p) e)

pub need-more : (w : Weights) (springs : ℕ → Spring) (p sum fall i : ℕ)
    → need_to w springs p sum fall (i + 1) ≡ max (need_to w springs p sum fall i) (need w sum fall (share_on (springs i) p) (slope (springs i) p))
unfolding need_to
need-more w springs p sum fall i = rw (add-one i)

-- the division as the code works it out
pub divided-worked-out : (w : Weights) (springs : ℕ → Spring) (n p q sum fall more : ℕ)
    → p < q → sum ≡ sum_to (shares_on springs p) n → fall ≡ slope_sum springs n p
    → more ≡ need_to w springs p sum fall n
    → (more < q - p → p + more ≡ divided w springs n p q) × (q - p ≤ more → q ≡ divided w springs n p q)
unfolding divided
divided-worked-out w springs n p q sum fall more l es ef en =
    let e : more ≡ need_to w springs p (sum_to (shares_on springs p) n) (slope_sum springs n p) n = cc in (λ h. omega arith, λ h. omega arith)
