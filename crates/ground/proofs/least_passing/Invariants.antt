-- `ground::least_passing` meets its contract. The loop: for each rising test that the function answers by, halving has come to these steps;
-- to − from falls. Assumes nothing.
use Rattle.ground.proofs.Kit.{ℕ, ◌+◌, ◌-◌, ◌≤◌, Bool}
use Rattle.ground.specs.Least.{Rising, Answers}
use Rattle.ground.proofs.Halving.{Halved}
use Rattle.ground.proofs.least_passing.Given as goal

abbrev pub invariant-loop-from : goal.invariant-loop-from
invariant-loop-from g l = record {
  order : l.from ≤ l.to;
  last : l.to ≤ l.full + 1;
  halved : (test : ℕ → Bool) → Rising test → Answers (goal.F-post g l.passes) test l.full → Halved test l.full l.from l.to;
}

abbrev pub decreases-loop-from : goal.decreases-loop-from
decreases-loop-from g l = l.to - l.from
