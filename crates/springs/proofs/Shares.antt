-- Springs: their shares, periods and charges, and that those of a good record are the record's.
-- Assumes nothing.
use Rattle.ground.proofs.Kit.{ℕ, ◌+◌, ◌-◌, ◌*◌, ◌≤◌, ◌<◌, ◌≡◌, refl, sym, arith}
use Rattle.kinds.specs.declared.Task.{Task}
use Rattle.kinds.specs.Limits.{scale, longest_period}
use Rattle.kinds.specs.Task.{Good, OnNotch}
use Rattle.rule.specs.Rule.{period_of, notched_up}
use Rattle.rule.proofs.Shares.{part_falls, share-falls, share-rigid, share-saturated, share-above, saturation-high}
use Rattle.rule.proofs.Periods.{period-shortest, period-rises, notched-from, notched-least, notched-rises, charge-high}
use Rattle.share.specs.Share.{least_of, share_at, saturation_at, period_at, charge_at}
use Rattle.share.proofs.Tasks.{least-some, largest-most, least-largest, at_zero}
use Rattle.share.proofs.Charges.{charge-at-zero}
use Rattle.springs.specs.declared.Spring.{Spring}
use Rattle.springs.specs.Spring.{spring_of, share_on, let_down, saturation_on, period_for, charge_for}
use Rattle.springs.specs.Allowed.{Within, Allowed}

-- a task's share and saturation step are its spring's
pub share-on : (t : Task) (k : ℕ) → share_on (spring_of t) k ≡ share_at t k
unfolding share_on share_at
share-on t k = refl

pub saturation-on : (t : Task) → saturation_on (spring_of t) ≡ saturation_at t
unfolding saturation_on saturation_at
saturation-on t = refl

-- the share of step k, let down once more, is the share of step k + 1
pub carried : (s : Spring) (k : ℕ) → let_down s (share_on s k) ≡ share_on s (k + 1)
unfolding share_on
carried s k = omega arith

pub share-least : (s : Spring) (k : ℕ) → s.least ≤ share_on s k
unfolding share_on
share-least s k = omega arith

pub share-high : (s : Spring) → Within s → (k : ℕ) → share_on s k ≤ s.largest
unfolding share_on
share-high s w k = omega (arith, w.least-largest)

pub share-most : (s : Spring) → Within s → (k : ℕ) → share_on s k ≤ scale
share-most s w k = omega (arith, share-high s w k, w.largest-most)

pub let-down-most : (s : Spring) → Within s → (share : ℕ) → share ≤ scale → let_down s share ≤ scale
let-down-most s w share h = omega (arith, h, w.least-largest, w.largest-most)

pub shares-fall : (s : Spring) (j k : ℕ) → j ≤ k → share_on s k ≤ share_on s j
unfolding share_on
shares-fall s j k h = share-falls s.largest s.least s.elasticity j k h

-- before its saturation step a share has fallen by less than it can, from then on it is the least, and a rigid one stays the largest
module _ (s : Spring) (w : Within s) (k : ℕ) where
  pub share-before : k < s.saturation → (k * s.elasticity ≤ s.largest) × (share_on s k ≡ s.largest - k * s.elasticity)
  unfolding share_on saturation_on
  share-before h =
      let above = (share-above s.largest s.least s.elasticity k (omega (arith, w.saturated))).1 in
      (omega (arith, above), omega (arith, above))

  pub share-after : s.saturation ≤ k → 1 ≤ s.elasticity → share_on s k ≡ s.least
  unfolding share_on saturation_on
  share-after h some = share-saturated s.largest s.least s.elasticity k some (omega (arith, w.saturated))

  pub share-stays : s.elasticity ≡ 0 → share_on s k ≡ s.largest
  unfolding share_on
  share-stays z = share-rigid s.largest s.least s.elasticity k w.least-largest z

-- document 01: "K is never above 999,999"
pub saturation-low : (s : Spring) → Within s → 1 ≤ s.least → s.saturation ≤ 999999
unfolding saturation_on
saturation-low s w some = omega (arith, w.saturated, saturation-high s.largest s.least s.elasticity, w.largest-most)

module _ (q : ℕ) (s : Spring) (a : Allowed q s) (k : ℕ) where
  pub share-some : 1 ≤ share_on s k
  share-some = omega (arith, share-least s k, a.some)

  -- what is allowed the least share is allowed a larger one
  pub still-allowed : period_for q s (share_on s k) ≤ longest_period
  still-allowed =
      omega (
        arith,
        a.most,
        notched-rises q a.notch (period_of s.cost s.tmin (share_on s k)) (period_of s.cost s.tmin s.least)
            (period-rises s.cost s.tmin (share_on s k) s.least a.some (share-least s k)),
      )

  pub charge-most : charge_for q s (share_on s k) ≤ scale
  charge-most = omega (arith, charge-high q a.notch s.cost s.tmin (share_on s k) a.ticks share-some, share-most s a.within k)

  -- no charge rises with the step
  pub charge-falls : (j : ℕ) → j ≤ k → charge_for q s (share_on s k) ≤ charge_for q s (share_on s j)
  charge-falls j h =
      let early = period_of s.cost s.tmin (share_on s j) in
      let late = period_of s.cost s.tmin (share_on s k) in
      part_falls s.cost (notched_up q early) (notched_up q late)
      (omega (arith, notched-from q a.notch early, a.ticks))
      (notched-rises q a.notch early late (period-rises s.cost s.tmin (share_on s j) (share_on s k) share-some (shares-fall s j k h)))

-- the spring of a good record
module _ (t : Task) (g : Good t) where
  pub good-within : Within (spring_of t)
  good-within =
      record { largest-most = largest-most t g; least-largest = least-largest t g; elasticity-most = g.e-most; saturated = sym (saturation-on t) }

  module _ (q : ℕ) (on : OnNotch q t) where
    period-high : notched_up q (period_of t.c t.tmin (least_of t)) ≤ longest_period
    period-high =
        let short = period-shortest t.c t.tmin t.tmax (least_of t)
        (omega (arith, g.c-some, g.c-tmin, g.tmin-tmax)) g.tmin-tmax (least-some t g) (omega arith) in
        omega (arith, notched-least q on.some (period_of t.c t.tmin (least_of t)) t.tmax on.tmax-on short.high, g.tmax-most)

    charged-whole : charge_for q (spring_of t) (spring_of t).largest ≡ (spring_of t).largest
    unfolding charge_at period_at
    charged-whole = rw (at_zero t g) at (charge-at-zero t g q on)

    pub good-allowed : Allowed q (spring_of t)
    good-allowed =
        record {
          within = good-within;
          notch = on.some;
          ticks = omega (arith, g.c-some, g.c-tmin);
          some = least-some t g;
          most = period-high;
          whole = charged-whole;
        }
