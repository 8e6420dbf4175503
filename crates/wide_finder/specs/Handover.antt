-- What the functions hand each other.
-- Assumes nothing.
use Rattle.std.specs.Prelude.{ℕ, ◌≤◌, ◌<◌, List, ◌≡◌, length, Ok}
use Rattle.ground.specs.Folds.{AddedUp}
use Rattle.kinds.specs.Limits.{most_tasks}
use Rattle.wide_task.specs.declared.WideTask.{WideTask}
use Rattle.wide_task.specs.declared.WideTable.{WideTable}
use Rattle.wide_task.specs.Limits.{most_cores}
use Rattle.wide_task.specs.WideTask.{at, Good}
use Rattle.wide_task.specs.Cores.{cores_at}
use Rattle.wide_finder.specs.Wide.{admission}

-- a table by value that the rules may be asked of
pub record GoodTable (t : WideTable) : Type 0 where
  pub few : t.n ≤ most_tasks
  pub good : (i : ℕ) → i < t.n → Good (at t.rows i)

-- the sum of the first n, with the bound that its callers need
abbrev pub SumIs : List WideTask → ℕ → ℕ → ℕ → Type 0
SumIs rows n k r = AddedUp (λ i. cores_at (at rows i) k) most_cores n r

-- a table that is let in, and its records
pub record LetsIn (m : ℕ) (t : WideTable) (room : ℕ) (rows : List WideTask) : Type 0 where
  pub passed : admission m t.rows t.n room ≡ Ok tt
  pub long : length rows ≡ t.n
  pub same : (i : ℕ) → i < t.n → at rows i ≡ at t.rows i
