-- The reasons for which a record is not good, in the documents' order: document 01's limits, with Ask 2's swaps, and then Ask 5's notches.
-- Assumes nothing.
use Rattle.std.specs.Prelude.{ℕ, ◌+◌, ◌*◌, ◌%◌, ◌≤◌, ◌<◌, ◌≡◌, not, eqb, ltb, Option, Some, None}
use Rattle.ground.specs.Choice.{pick}
use Rattle.kinds.specs.declared.Task.{Task}
use Rattle.kinds.specs.Limits.{longest_period, greatest_elasticity}
use Rattle.kinds.specs.Task.{priced, Good, OnNotch}
use Rattle.reason.specs.declared.Reason.{Reason}
use Rattle.reason.specs.declared.Reason.TheVariants.{NoCost, CostAboveTmin, TminAboveTmax, TmaxTooLong, ElasticityTooGreat, NoNotch, TminOffNotch, TmaxOffNotch}

-- Ask 5: "Tmin and Tmax must be multiples of q", of a notch
unfoldable pub notch_reason : ℕ → Task → Option Reason
notch_reason q t =
    pick (eqb q 0) (Some NoNotch)
    (pick (not (eqb (t.tmin % q) 0)) (Some TminOffNotch)
    (pick (not (eqb (t.tmax % q) 0)) (Some TmaxOffNotch) None))

-- "1 ≤ C ≤ Tmin ≤ Tmax ≤ 1,000,000,000 and 0 ≤ E ≤ 1,000,000", where C ≤ Tmin is read with swaps: the first that fails
unfoldable pub reason_of : ℕ → ℕ → Task → Option Reason
reason_of w q t =
    pick (ltb t.c 1) (Some NoCost)
    (pick (ltb t.tmin (t.c + 2 * w)) (Some CostAboveTmin)
    (pick (ltb t.tmax t.tmin) (Some TminAboveTmax)
    (pick (ltb longest_period t.tmax) (Some TmaxTooLong)
    (pick (ltb greatest_elasticity t.e) (Some ElasticityTooGreat)
    (notch_reason q t)))))

-- what a reason says of a record: its own limit is broken, and those before it are kept; none says that all are
abbrev pub Says : ℕ → ℕ → Task → Option Reason → Type 0
Says w q t (Some NoCost) = t.c < 1
Says w q t (Some CostAboveTmin) = (1 ≤ t.c) × (t.tmin < t.c + 2 * w)
Says w q t (Some TminAboveTmax) = (1 ≤ t.c) × (t.c + 2 * w ≤ t.tmin) × (t.tmax < t.tmin)
Says w q t (Some TmaxTooLong) = (1 ≤ t.c) × (t.c + 2 * w ≤ t.tmin) × (t.tmin ≤ t.tmax) × (longest_period < t.tmax)
Says w q t (Some ElasticityTooGreat) =
    (1 ≤ t.c) × (t.c + 2 * w ≤ t.tmin) × (t.tmin ≤ t.tmax) × (t.tmax ≤ longest_period) × (greatest_elasticity < t.e)
Says w q t (Some NoNotch) = (1 ≤ t.c) × Good (priced w t) × (q ≡ 0)
Says w q t (Some TminOffNotch) = (1 ≤ t.c) × Good (priced w t) × (1 ≤ q) × (t.tmin % q ≡ 0 → ⊥)
Says w q t (Some TmaxOffNotch) = (1 ≤ t.c) × Good (priced w t) × (1 ≤ q) × (t.tmin % q ≡ 0) × (t.tmax % q ≡ 0 → ⊥)
Says w q t None = (1 ≤ t.c) × Good (priced w t) × OnNotch q (priced w t)

-- the number that tells a reason: 0 where there is none, then the limits in the documents' order, and last that there is no notch
abbrev pub reason_number : Option Reason → ℕ
reason_number None = 0
reason_number (Some NoCost) = 1
reason_number (Some CostAboveTmin) = 2
reason_number (Some TminAboveTmax) = 3
reason_number (Some TmaxTooLong) = 4
reason_number (Some ElasticityTooGreat) = 5
reason_number (Some TminOffNotch) = 6
reason_number (Some TmaxOffNotch) = 7
reason_number (Some NoNotch) = 8
