-- Ask 10: cases B, D and J under edition 2, lines of the same form as those of the bench.
-- Assumes nothing.
use Rattle.std.specs.Prelude.{List, [], ◌∷◌, map, ◌≡◌, pos}
use Rattle.kinds.specs.declared.Policy.TheVariants.{Pooled}
use Rattle.kinds.specs.Answer.{accepted}
use Rattle.kinds.specs.Limits.{charge_edition}
use Rattle.kinds.specs.Task.{task}
use Rattle.cases.specs.Bench.{Case, worked_out_of, six}
use Rattle.cases.specs.Steps.{case_j}

unfoldable pub charged : List Case
charged =
    -- B
    record {
      setting = record { policy = Pooled; m = 1; tasks = six ∷ six ∷ [] };
      outcome = record {
        saturations = 300 ∷ 300 ∷ [];
        handed = accepted 55;
        looks = 8;
        periods = 12 ∷ 12 ∷ [];
        processors = 0 ∷ 0 ∷ [];
        shares_there = 545000 ∷ 545000 ∷ [];
        margin_there = pos 0;
      };
    } ∷
    -- D: "gives step 139 with the same periods"
    record {
      setting = record { policy = Pooled; m = 1; tasks = task 6 10 11 1000 ∷ task 6 10 30 1000 ∷ [] };
      outcome = record {
        saturations = 55 ∷ 400 ∷ [];
        handed = accepted 139;
        looks = 9;
        periods = 11 ∷ 14 ∷ [];
        processors = 0 ∷ 0 ∷ [];
        shares_there = 545455 ∷ 461000 ∷ [];
        margin_there = pos 25973;
      };
    } ∷
    -- J
    record {
      setting = case_j;
      outcome = record {
        saturations = 999999 ∷ 999999 ∷ [];
        handed = accepted 1;
        looks = 20;
        periods = 2 ∷ 2 ∷ [];
        processors = 0 ∷ 0 ∷ [];
        shares_there = 999999 ∷ 999999 ∷ [];
        margin_there = pos 0;
      };
    } ∷
    []

-- the claim: the definitions give each
abbrev pub ChargedRight : Type 0
ChargedRight = map (λ (c : Case). worked_out_of charge_edition c.setting) charged ≡ map (λ (c : Case). c.outcome) charged
