-- An accepted call in the words of demand 2: the least passing step, each task's shortest period on a notch and its processor, and nothing past them.
-- `accepted-granted` of `proofs/Demand` says that every call that is accepted has it.
-- Assumes nothing.
use Rattle.std.specs.Prelude.{ℕ, ◌+◌, ◌≤◌, ◌<◌, true, false, List, ◌≡◌, get_or}
use Rattle.ground.specs.Least.{LeastAt}
use Rattle.kinds.specs.declared.Task.{Task}
use Rattle.kinds.specs.declared.Policy.{Policy}
use Rattle.kinds.specs.declared.Settings.{Settings}
use Rattle.kinds.specs.Limits.{scale}
use Rattle.kinds.specs.Policy.{meant, is_first_fit}
use Rattle.kinds.specs.Task.{at, Good}
use Rattle.rule.specs.Rule.{ShortestOn}
use Rattle.share.specs.Share.{share_at}
use Rattle.fit.specs.Fit.{loads_after}
use Rattle.policy.specs.Passing.{passes_at}
use Rattle.policy.specs.Under.{rows_under, full_under, loads_under}

-- "1 to m", and "the lowest-numbered processor whose load with it is at most S": the task number i, once those before it are placed
pub record Lowest (m : ℕ) (load : ℕ → ℕ) (i processor : ℕ) : Type 0 where
  pub from_one : 1 ≤ processor
  pub to-m : processor ≤ m
  pub room : (j : ℕ) → j + 1 ≡ processor → get_or (loads_after m load i) j 0 + load i ≤ scale
  pub none-lower : (j : ℕ) → j + 1 < processor → scale < get_or (loads_after m load i) j 0 + load i

-- "1 to m under policy 4, and 0 ("any") under 1 to 3"; Ask 1: 0 under 5
pub record Assigned (p : Policy) (m : ℕ) (load : ℕ → ℕ) (i processor : ℕ) : Type 0 where
  pub placed : is_first_fit p ≡ true → Lowest m load i processor
  pub any : is_first_fit p ≡ false → processor ≡ 0

-- entry i of the outputs is that of task i, with its swaps paid for, and what stands past the tasks is as it was
pub record Granted (s : Settings) (rows : List Task) (n k : ℕ) (old_periods old_processors periods processors : List ℕ) : Type 0 where
  pub good : (i : ℕ) → i < n → Good (at (rows_under s rows n) i)
  pub step : LeastAt (passes_at (meant s.policy) s.m (loads_under s rows n) n) (full_under s rows n) k
  pub each-period : (i : ℕ) → i < n → let task = at (rows_under s rows n) i in
      ShortestOn s.notch task.c task.tmin task.tmax (share_at task k) (get_or periods i 0)
  pub each-processor : (i : ℕ) → i < n → Assigned (meant s.policy) s.m (loads_under s rows n k) i (get_or processors i 0)
  pub periods-past : (i : ℕ) → n ≤ i → get_or periods i 0 ≡ get_or old_periods i 0
  pub processors-past : (i : ℕ) → n ≤ i → get_or processors i 0 ≡ get_or old_processors i 0
