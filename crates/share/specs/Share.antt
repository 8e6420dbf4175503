-- Document 01, "Numbers on a task", for a task record, and what each edition tests of it.
-- How names end, here and in the rooms above: ..Of a thing, whatever the step; ..At a step of a task or a table; ..On springs; ..In a block or
-- another run of numbers; ..By a chain of checks or an order; ..Under settings, and only those know w, q and the edition.
-- Assumes nothing.
use Rattle.std.specs.Prelude.{ℕ}
use Rattle.ground.specs.Choice.{pick}
use Rattle.kinds.specs.declared.Task.{Task}
use Rattle.kinds.specs.declared.Settings.{Settings}
use Rattle.kinds.specs.Settings.{tests_charge}
use Rattle.kinds.specs.Task.{priced, is_good}
use Rattle.rule.specs.Rule.{part_of, share_of, saturation_of, period_of, notched_up}

-- of a record whose swaps are paid for, so that C is the whole cost of a job
abbrev pub largest_of : Task → ℕ
largest_of t = part_of t.c t.tmin

abbrev pub least_of : Task → ℕ
least_of t = part_of t.c t.tmax

unfoldable pub share_at : Task → ℕ → ℕ
share_at t k = share_of (largest_of t) (least_of t) t.e k

unfoldable pub saturation_at : Task → ℕ
saturation_at t = saturation_of (largest_of t) (least_of t) t.e

-- document 01's period, moved on to the next notch of q
unfoldable pub period_at : ℕ → Task → ℕ → ℕ
period_at q t k = notched_up q (period_of t.c t.tmin (share_at t k))

-- Ask 10: "the charge, which is cost × S / period rounded up at that step's period"
unfoldable pub charge_at : ℕ → Task → ℕ → ℕ
charge_at q t k = part_of t.c (period_at q t k)

-- what is tested and placed: under edition 2 the charge, else the share
unfoldable pub load_at : Settings → Task → ℕ → ℕ
load_at s t k = pick (tests_charge s) (charge_at s.notch t k) (share_at t k)

-- the share of a record as it stands under these settings: that of the record with its swaps paid for; 0, which no share is, where it is not good
unfoldable pub share_under : Settings → Task → ℕ → ℕ
share_under s t k = pick (is_good s.swap s.notch t) (share_at (priced s.swap t) k) 0
