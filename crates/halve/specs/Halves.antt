-- Ask 10: one look of a halving, and how a halving ends.
-- Assumes nothing.
use Rattle.std.specs.Prelude.{ℕ, ◌+◌, Bool, ◌≡◌}
use Rattle.ground.specs.declared.Ended.{Ended}
use Rattle.ground.specs.Choice.{pick}
use Rattle.ground.specs.Halving.{middle, tests_made}
use Rattle.ground.specs.Least.{least_up_to}
use Rattle.halve.specs.declared.Range.{Range}

-- "testing the middle rounded down (a pass keeps it and below, a failure what is above)"; the looks are one more
abbrev pub half : (ℕ → Bool) → Range → Range
half test r =
    pick (test (middle r.from r.to))
    (record { from = r.from; to = middle r.from r.to; looks = r.looks + 1 })
    (record { from = middle r.from r.to + 1; to = r.to; looks = r.looks + 1 })

-- the least step of those from 0 to K, and as many looks as tests were made
pub record HalvingEnds (test : ℕ → Bool) (K : ℕ) (r : Ended) : Type 0 where
  pub least : r.step ≡ least_up_to test K
  pub count : r.looks ≡ tests_made test K
