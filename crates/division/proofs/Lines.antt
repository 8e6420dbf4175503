-- Between two neighbouring saturation steps every share is a line, and so is each side of the test.
-- Assumes nothing.
use Rattle.ground.proofs.Kit.{ℕ, ◌+◌, ◌-◌, ◌*◌, ◌≤◌, ◌<◌, max, ◌≡◌, sym, ap, mul-le-mul_left, mul-le-mul_right, arith, lt-ltb, le-ltb}
use mathlib.Core.Logic.{◌↔◌}
use native.Mathlib.Nat.{max-eq_left, max-eq_right}
use Rattle.ground.specs.Rounding.{ceil_div}
use Rattle.ground.proofs.Cases.{by_le}
use Rattle.ground.proofs.Rounding.{ceil-enough, ceil-least, ceil-over}
use Rattle.kinds.specs.Limits.{greatest_elasticity}
use Rattle.policy.specs.declared.Weights.{Weights}
use Rattle.policy.specs.Sides.{left_of}
use Rattle.rule.proofs.Shares.{share-saturated, share-above}
use Rattle.division.specs.declared.Line.{Line}
use Rattle.springs.specs.declared.Spring.{Spring}
use Rattle.springs.specs.Spring.{share_on, saturation_on}
use Rattle.springs.specs.Allowed.{Within}
use Rattle.division.specs.Division.{slope, need}
use Rattle.division.specs.Handover.{LineIs, NeedIs}

-- a spring with its saturation step above k is still falling at k
falling : (s : Spring) (k : ℕ) → k < saturation_on s → (0 < s.elasticity) × (s.least + k * s.elasticity < s.largest)
unfolding saturation_on
falling s k h =
    let a = share-above s.largest s.least s.elasticity k h in (omega (arith, a.0), omega (arith, a.1))

-- one with no saturation step above k stays where it is
settled : (s : Spring) (k j : ℕ) → saturation_on s ≤ k → share_on s k ≡ share_on s (k + j)
unfolding saturation_on share_on
settled s k j h =
    by_le s.elasticity 0
    (λ z. let e : s.elasticity ≡ 0 = omega arith in omega (arith, ap (λ (x : ℕ). k * x) e, ap (λ (x : ℕ). (k + j) * x) e))
    (λ pos. let saturated = share-saturated s.largest s.least s.elasticity in
    omega (arith, saturated k pos h, saturated (k + j) pos (omega arith)))

falls-on : (s : Spring) (p j : ℕ) → p + j < saturation_on s → share_on s p ≡ share_on s (p + j) + j * s.elasticity
unfolding share_on
falls-on s p j h = omega (arith, falling s (p + j) h)

slope-on : (s : Spring) (p : ℕ) → p < saturation_on s → slope s p ≡ s.elasticity
unfolding slope
slope-on s p h = rw (lt-ltb p (saturation_on s) h)

slope-off : (s : Spring) (p : ℕ) → saturation_on s ≤ p → slope s p ≡ 0
unfolding slope
slope-off s p h = rw (le-ltb p (saturation_on s) h)

-- the slope as it is found: by the saturation step that the spring has beside it
module _ (s : Spring) (w : Within s) (p : ℕ) where
  pub slope-before : p < s.saturation → (s.elasticity ≡ slope s p) × (s.elasticity ≤ greatest_elasticity)
  slope-before h = (sym (slope-on s p (omega (arith, w.saturated))), w.elasticity-most)

  pub slope-after : s.saturation ≤ p → (0 ≡ slope s p) × (0 ≤ greatest_elasticity)
  slope-after h = (sym (slope-off s p (omega (arith, w.saturated))), omega arith)

pub slope-some : (s : Spring) (p : ℕ) → p < saturation_on s → 0 < slope s p
slope-some s p h = omega (arith, slope-on s p h, (falling s p h).0)

-- before the next saturation step q the share falls by its slope at each step
pub share-line : (s : Spring) (p q j : ℕ) → (p < saturation_on s → q ≤ saturation_on s) → p + j < q → share_on s p ≡ share_on s (p + j) + j * slope s p
share-line s p q j gap l =
    by_le (saturation_on s) p
    (λ h. rw (slope-off s p h) (omega (arith, settled s p j h)))
    (λ h. rw (slope-on s p h) (falls-on s p j (omega (arith, gap h))))

-- one linear inequality: the least j by one division
line-iff : (L R D j : ℕ) → 0 < D → (L ≤ R + j * D) ↔ (ceil_div (L - R) D ≤ j)
line-iff L R D j pos = (
  λ h. ceil-least (L - R) D j pos (omega arith),
  λ h. omega (arith, ceil-enough (L - R) D pos, mul-le-mul_right D h),
)

-- j steps on, the left side has fallen by its own fall at each step
test-line : (w : Weights) (sum x fall d j : ℕ) → (left_of w sum x ≤ w.r) ↔ (left_of w (sum + j * fall) (x + j * d) ≤ w.r + j * left_of w fall d)
test-line w sum x fall d j = (λ h. omega arith, λ h. omega arith)

-- the test j steps on, with x taken for the max, by one division now
pub need-iff : (w : Weights) (sum sum' x x' fall d j : ℕ) → 0 < fall → sum ≡ sum' + j * fall → x ≡ x' + j * d
    → (need w sum fall x d ≤ j) ↔ (left_of w sum' x' ≤ w.r)
unfolding need
need-iff w sum sum' x x' fall d j pos es ex =
    let i : (left_of w sum x ≤ w.r + j * left_of w fall d) ↔ (ceil_div (left_of w sum x - w.r) (left_of w fall d) ≤ j) =
    line-iff (left_of w sum x) w.r (left_of w fall d) j (omega arith) in
    let t : (left_of w sum' x' ≤ w.r) ↔ (left_of w sum x ≤ w.r + j * left_of w fall d) = rw (es, ex) (test-line w sum' x' fall d j) in
    (λ h. t.1 (i.1 h), λ h. i.0 (t.0 h))

-- the test in the max alone: it holds of smaller ones
lower : (w : Weights) (sum x y : ℕ) → x ≤ y → left_of w sum y ≤ w.r → left_of w sum x ≤ w.r
lower w sum x y h t = omega (arith, mul-le-mul_left w.b h)

-- the harder of the steps x and of a quotient rounded up, which need not be divided where a product says that it is no more
module _ (x over by : ℕ) (few : x ≤ 1000000000) where
  pub harder-kept : 1 ≤ by → over ≤ x * by → NeedIs (max x (ceil_div over by)) x
  harder-kept some e = record { is = omega (arith, ceil-least over by x some e); most = few }

  pub harder-divided : (r : ℕ) → 1 ≤ by → x * by < over → NeedIs (ceil_div over by) r → NeedIs (max x (ceil_div over by)) r
  harder-divided r some e n = record { is = omega (arith, n.is, ceil-over over by x some e); most = n.most }

-- the steps that a line needs
pub need-line : (w : Weights) (sum fall x d : ℕ) (r : Line) → LineIs w sum fall x d r → ceil_div r.over r.by ≡ need w sum fall x d
unfolding need
need-line w sum fall x d r l = rw (l.over-is, l.by-is)

-- where the max does not count, it does not matter which task has it
pub need-flat : (w : Weights) (sum fall x d : ℕ) → w.b ≡ 0 → need w sum fall x d ≡ need w sum fall 0 0
unfolding need
need-flat w sum fall x d e =
    let left-flat : (s y : ℕ) → left_of w s y ≡ left_of w s 0 = λ s y. omega (arith, ap (λ (b : ℕ). b * y) e, ap (λ (b : ℕ). b * 0) e) in
    rw (left-flat sum x, left-flat fall d)

-- the max over one task more
pub both_ways : (w : Weights) (sum N x j a b : ℕ) → (N ≤ j) ↔ (left_of w sum a ≤ w.r) → (x ≤ j) ↔ (left_of w sum b ≤ w.r)
    → (max N x ≤ j) ↔ (left_of w sum (max a b) ≤ w.r)
both_ways w sum N x j a b p q = (
  λ h. by_le a b (λ l. rw (max-eq_right l) (q.0 (omega arith))) (λ l. let l' : b ≤ a = omega arith in rw (max-eq_left l') (p.0 (omega arith))),
  λ h. omega (arith, p.1 (lower w sum a (max a b) (omega arith) h), q.1 (lower w sum b (max a b) (omega arith) h)),
)
