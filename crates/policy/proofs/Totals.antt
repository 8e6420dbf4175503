-- The walk that works out the sum and the max of the loads together.
-- Assumes nothing.
use Rattle.ground.proofs.Kit.{ℕ, ◌+◌, ◌≤◌, max, ◌≡◌, sym, arith}
use Rattle.ground.proofs.Folds.{added_none, added_more, max_none, max-more}
use Rattle.kinds.specs.Limits.{scale}
use Rattle.policy.specs.Handover.{TotalIs}

pub total-none : (load : ℕ → ℕ) → TotalIs load 0 0 0
total-none load =
    record { added = added_none load scale; max-is = sym (max_none load); max-most = omega arith }

pub total-more : (load : ℕ → ℕ) (i sum most x most' : ℕ) → TotalIs load i sum most → x ≡ load i → x ≤ scale → most' ≡ max most x
    → TotalIs load (i + 1) (sum + x) most'
total-more load i sum most x most' t e h g =
    record {
      added = added_more load scale i sum x t.added e h;
      max-is = omega (arith, max-more load i, t.max-is);
      max-most = omega (arith, t.max-most);
    }
