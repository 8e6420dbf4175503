-- Tables worked out for auditors, on one processor under policy 1: case I, one that just spares a part for each task, one that just spares a
-- part for each task but one, and one that misses that by two thousandths of a part and is refused.
-- Assumes nothing.
use Rattle.std.specs.Prelude.{ℕ, Bool, true, false, List, [], ◌∷◌, map, ◌≡◌, length}
use Rattle.kinds.specs.declared.Policy.TheVariants.{Pooled}
use Rattle.kinds.specs.declared.Task.{Task}
use Rattle.kinds.specs.Limits.{share_edition, charge_edition}
use Rattle.kinds.specs.Settings.{settings}
use Rattle.kinds.specs.Task.{task}
use Rattle.outcome.specs.Plan.{found}
use Rattle.rounding_cost.specs.Exact.{Fraction, out_of}
use Rattle.rounding_cost.specs.RoundingCost.{cost_over_tmin, spares_parts, spares_fewer_parts}

-- the exact sum of cost over Tmin, whether it spares a part for each task, whether for each but one, and the number that a call hands back
pub record Line : Type 0 where
  pub sum : Fraction
  pub spares : Bool
  pub fewer : Bool
  pub number : ℕ

unfoldable pub worked_out : ℕ → List Task → Line
worked_out edition tasks =
    let n = length tasks in
    let s = settings Pooled 1 0 1 edition in
    record {
      sum = cost_over_tmin s tasks n;
      spares = spares_parts s tasks n;
      fewer = spares_fewer_parts s tasks n;
      number = (found true s tasks n n).number;
    }

-- rigid tasks, whose one period is Tmin
abbrev pub rigid : ℕ → ℕ → Task
rigid c t = task c t t 0

unfoldable pub tables : List (List Task)
tables =
    -- case I: the exact sum is 1, and the shares 333,334 three times
    (rigid 1 3 ∷ rigid 1 3 ∷ rigid 1 3 ∷ []) ∷
    -- 999,998 parts of the sum are m × S − 2
    (rigid 499999 1000000 ∷ rigid 499999 1000000 ∷ []) ∷
    -- 999,999 are one more
    (rigid 499999 1000000 ∷ rigid 500000 1000000 ∷ []) ∷
    -- 999,999.002 are rounded up to 500,000 and 500,001
    (rigid 499999001 1000000000 ∷ rigid 500000001 1000000000 ∷ []) ∷
    []

unfoldable pub lines : List Line
lines =
    record { sum = out_of 27 27; spares = false; fewer = false; number = 7 } ∷
    record { sum = out_of 999998000000 1000000000000; spares = true; fewer = true; number = 0 } ∷
    record { sum = out_of 999999000000 1000000000000; spares = false; fewer = true; number = 0 } ∷
    record { sum = out_of 999999002000000000 1000000000000000000; spares = false; fewer = false; number = 7 } ∷
    []

-- the claim, for both editions
abbrev pub WorkedRight : Type 0
WorkedRight = (map (worked_out share_edition) tables ≡ lines) × (map (worked_out charge_edition) tables ≡ lines)
