-- Document 01, "Bench settings to try": the cases with a star as one table, and the claim that each line of it is right: A to E and I of the
-- calls, admission included, and F, G and H of the rule of policy 3, which is withdrawn.
-- Assumes nothing.
use Rattle.std.specs.Prelude.{ℕ, Bool, true, List, [], ◌∷◌, map, ◌≡◌, ℤ, pos, negsuc, length, replicate, Ok}
use Rattle.ground.specs.Choice.{pick}
use Rattle.ground.specs.Folds.{list_to}
use Rattle.kinds.specs.declared.Settings.{Settings}
use Rattle.kinds.specs.declared.Task.{Task}
use Rattle.kinds.specs.declared.Policy.{Policy}
use Rattle.kinds.specs.declared.Policy.TheVariants.{Pooled, GlobalEdf, GlobalRm}
use Rattle.kinds.specs.Answer.{Handed, accepted}
use Rattle.kinds.specs.Limits.{share_edition}
use Rattle.kinds.specs.Policy.{meant, is_withdrawn}
use Rattle.kinds.specs.Settings.{settings}
use Rattle.kinds.specs.Task.{task, at}
use Rattle.share.specs.Share.{saturation_at}
use Rattle.share.specs.Table.{shares}
use Rattle.policy.specs.Under.{rows_under, least_under, looks_under, margin_under}
use Rattle.outcome.specs.Plan as plan
use Rattle.quick_finder.specs.Looked.{looks}

-- a bench setting
pub record Setting : Type 0 where
  pub policy : Policy
  pub m : ℕ
  pub tasks : List Task

-- what a call hands back for it and leaves in the two outputs, the looks, and what that comes from: the saturation steps, and at the step
-- that is handed back the shares and the margin
pub record Outcome : Type 0 where
  pub saturations : List ℕ
  pub handed : Handed ℕ
  pub looks : ℕ
  pub periods : List ℕ
  pub processors : List ℕ
  pub shares_there : List ℕ
  pub margin_there : ℤ

-- an output as it is lent: an entry for each task, and none that an answer has
abbrev pub lent : ℕ → List ℕ
lent n = replicate n 7

-- Ask 8: the policy is withdrawn, and its cases are kept for the rule
abbrev pub goes_past : Settings → Bool
goes_past s = is_withdrawn (meant s.policy)

-- what a finder promises, admission included; past admission, what the rule gives
abbrev pub answered : Settings → List Task → ℕ → plan.Outcome
answered s tasks n =
    let least = plan.decided (Ok tt) (least_under s tasks n) in
    pick (goes_past s)
    (record {
      handed = least;
      periods = plan.periods_after least s tasks n (lent n);
      processors = plan.processors_after least s tasks n (lent n);
    })
    (plan.outcome true s tasks n (lent n) (lent n))

-- the looks that the quick finder promises, admission included; past admission, those that the rule calls for
abbrev pub looked_at : Settings → List Task → ℕ → ℕ
looked_at s tasks n = pick (goes_past s) (looks_under s tasks n) (looks s tasks n n)

-- by the definitions that the finders promise, where a swap costs nothing and a notch is one tick
unfoldable pub worked_out_of : ℕ → Setting → Outcome
worked_out_of edition c =
    let n = length c.tasks in
    let s = settings c.policy c.m 0 1 edition in
    let paid = rows_under s c.tasks n in
    let call = answered s c.tasks n in
    let step = call.handed.value in
    record {
      saturations = list_to (λ i. saturation_at (at paid i)) n;
      handed = call.handed;
      looks = looked_at s c.tasks n;
      periods = call.periods;
      processors = call.processors;
      shares_there = list_to (shares paid step) n;
      margin_there = margin_under s c.tasks n step;
    }

-- document 01 tests the shares, which is edition 1
abbrev pub worked_out : Setting → Outcome
worked_out c = worked_out_of share_edition c

-- a line of the bench
pub record Case : Type 0 where
  pub setting : Setting
  pub outcome : Outcome

abbrev pub six : Task
six = task 6 10 20 1000

abbrev pub third : Task
third = task 1 3 3 0

-- the cases with a star
unfoldable pub bench : List Case
bench =
    -- A
    record {
      setting = record { policy = Pooled; m = 1; tasks = [] };
      outcome = record {
        saturations = [];
        handed = accepted 0;
        looks = 1;
        periods = [];
        processors = [];
        shares_there = [];
        margin_there = pos 1000000;
      };
    } ∷
    -- B
    record {
      setting = record { policy = Pooled; m = 1; tasks = six ∷ six ∷ [] };
      outcome = record {
        saturations = 300 ∷ 300 ∷ [];
        handed = accepted 100;
        looks = 2;
        periods = 12 ∷ 12 ∷ [];
        processors = 0 ∷ 0 ∷ [];
        shares_there = 500000 ∷ 500000 ∷ [];
        margin_there = pos 0;
      };
    } ∷
    -- C
    record {
      setting = record { policy = Pooled; m = 1; tasks = task 5 10 20 0 ∷ task 8 10 40 3000 ∷ [] };
      outcome = record {
        saturations = 0 ∷ 200 ∷ [];
        handed = accepted 100;
        looks = 2;
        periods = 10 ∷ 16 ∷ [];
        processors = 0 ∷ 0 ∷ [];
        shares_there = 500000 ∷ 500000 ∷ [];
        margin_there = pos 0;
      };
    } ∷
    -- D
    record {
      setting = record { policy = Pooled; m = 1; tasks = task 6 10 11 1000 ∷ task 6 10 30 1000 ∷ [] };
      outcome = record {
        saturations = 55 ∷ 400 ∷ [];
        handed = accepted 146;
        looks = 3;
        periods = 11 ∷ 14 ∷ [];
        processors = 0 ∷ 0 ∷ [];
        shares_there = 545455 ∷ 454000 ∷ [];
        margin_there = pos 545;
      };
    } ∷
    -- E
    record {
      setting = record { policy = GlobalEdf; m = 2; tasks = six ∷ six ∷ six ∷ [] };
      outcome = record {
        saturations = 300 ∷ 300 ∷ 300 ∷ [];
        handed = accepted 100;
        looks = 2;
        periods = 12 ∷ 12 ∷ 12 ∷ [];
        processors = 0 ∷ 0 ∷ 0 ∷ [];
        shares_there = 500000 ∷ 500000 ∷ 500000 ∷ [];
        margin_there = pos 0;
      };
    } ∷
    -- F
    record {
      setting = record { policy = GlobalRm; m = 2; tasks = six ∷ six ∷ six ∷ [] };
      outcome = record {
        saturations = 300 ∷ 300 ∷ 300 ∷ [];
        handed = accepted 267;
        looks = 2;
        periods = 19 ∷ 19 ∷ 19 ∷ [];
        processors = 0 ∷ 0 ∷ 0 ∷ [];
        shares_there = 333000 ∷ 333000 ∷ 333000 ∷ [];
        margin_there = pos 2000;
      };
    } ∷
    -- G
    record {
      setting = record { policy = GlobalRm; m = 1; tasks = task 10 10 20 1 ∷ [] };
      outcome = record {
        saturations = 500000 ∷ [];
        handed = accepted 0;
        looks = 1;
        periods = 10 ∷ [];
        processors = 0 ∷ [];
        shares_there = 1000000 ∷ [];
        margin_there = pos 0;
      };
    } ∷
    -- H
    record {
      setting = record { policy = GlobalRm; m = 1; tasks = six ∷ six ∷ [] };
      outcome = record {
        saturations = 300 ∷ 300 ∷ [];
        handed = accepted 267;
        looks = 2;
        periods = 19 ∷ 19 ∷ [];
        processors = 0 ∷ 0 ∷ [];
        shares_there = 333000 ∷ 333000 ∷ [];
        margin_there = pos 1000;
      };
    } ∷
    -- I: refused by 7, and the outputs stay as they were lent
    record {
      setting = record { policy = Pooled; m = 1; tasks = third ∷ third ∷ third ∷ [] };
      outcome = record {
        saturations = 0 ∷ 0 ∷ 0 ∷ [];
        handed = record { number = 7; place = 0; value = 0 };
        looks = 1;
        periods = 7 ∷ 7 ∷ 7 ∷ [];
        processors = 7 ∷ 7 ∷ 7 ∷ [];
        shares_there = 333334 ∷ 333334 ∷ 333334 ∷ [];
        margin_there = negsuc 1;
      };
    } ∷
    []

-- the claim: the definitions give every outcome of the bench
abbrev pub BenchRight : Type 0
BenchRight = map (λ (c : Case). worked_out c.setting) bench ≡ map (λ (c : Case). c.outcome) bench
