-- Ask 1: case B's tasks under rate monotonic on one core, a line of the same form as those of the bench.
-- Assumes nothing.
use Rattle.std.specs.Prelude.{[], ◌∷◌, ◌≡◌, pos}
use Rattle.kinds.specs.declared.Policy.TheVariants.{OneCoreRm}
use Rattle.kinds.specs.Answer.{accepted}
use Rattle.cases.specs.Bench.{Case, worked_out, six}

unfoldable pub one_core : Case
one_core =
    record {
      setting = record { policy = OneCoreRm; m = 1; tasks = six ∷ six ∷ [] };
      outcome =
          record {
            saturations = 300 ∷ 300 ∷ [];
            handed = accepted 186;
            looks = 2;
            periods = 15 ∷ 15 ∷ [];
            processors = 0 ∷ 0 ∷ [];
            shares_there = 414000 ∷ 414000 ∷ [];
            margin_there = pos 427;
          };
    }

-- the claim: the definitions give it
abbrev pub OneCoreRight : Type 0
OneCoreRight = worked_out one_core.setting ≡ one_core.outcome
