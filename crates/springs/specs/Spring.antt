-- The spring of a task: all that its shares, periods and charges depend on.
-- Assumes nothing.
use Rattle.std.specs.Prelude.{ℕ, ◌-◌, max}
use Rattle.ground.specs.Choice.{pick}
use Rattle.kinds.specs.declared.Task.{Task}
use Rattle.kinds.specs.declared.Settings.{Settings}
use Rattle.kinds.specs.Settings.{tests_charge}
use Rattle.rule.specs.Rule.{part_of, share_of, saturation_of, period_of, notched_up}
use Rattle.share.specs.Share.{largest_of, least_of, saturation_at}
use Rattle.springs.specs.declared.Spring.{Spring}

abbrev pub spring_of : Task → Spring
spring_of t =
    record { largest = largest_of t; least = least_of t; elasticity = t.e; saturation = saturation_at t; cost = t.c; tmin = t.tmin }

unfoldable pub share_on : Spring → ℕ → ℕ
share_on s k = share_of s.largest s.least s.elasticity k

-- what a share comes to one step later
abbrev pub let_down : Spring → ℕ → ℕ
let_down s share = max s.least (share - s.elasticity)

unfoldable pub saturation_on : Spring → ℕ
saturation_on s = saturation_of s.largest s.least s.elasticity

-- the period, on notches of q, that a share allows, and the charge at it
abbrev pub period_for : ℕ → Spring → ℕ → ℕ
period_for q s share = notched_up q (period_of s.cost s.tmin share)

abbrev pub charge_for : ℕ → Spring → ℕ → ℕ
charge_for q s share = part_of s.cost (period_for q s share)

-- the shares of springs at step k, by number, their saturation steps, periods and charges, and what is tested and placed: under edition 2 the
-- charge, else the share
abbrev pub shares_on : (ℕ → Spring) → ℕ → ℕ → ℕ
shares_on springs k i = share_on (springs i) k

abbrev pub saturations : (ℕ → Spring) → ℕ → ℕ
saturations springs i = saturation_on (springs i)

abbrev pub periods_on : ℕ → (ℕ → Spring) → ℕ → ℕ → ℕ
periods_on q springs k i = period_for q (springs i) (share_on (springs i) k)

abbrev pub charges_on : ℕ → (ℕ → Spring) → ℕ → ℕ → ℕ
charges_on q springs k i = charge_for q (springs i) (share_on (springs i) k)

abbrev pub loads_on : Settings → (ℕ → Spring) → ℕ → ℕ → ℕ
loads_on s springs k i = pick (tests_charge s) (charges_on s.notch springs k i) (shares_on springs k i)
