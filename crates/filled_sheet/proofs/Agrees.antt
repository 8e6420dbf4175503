-- Document 02, Ask 14, in its own words: the results that the plain finder would give.
-- Assumes nothing.
use Rattle.ground.proofs.Kit.{ℕ, ◌<◌, List, ◌≡◌}
use Rattle.kinds.specs.declared.Granted.{Granted}
use Rattle.kinds.specs.declared.Sheet.{Sheet}
use Rattle.kinds.specs.Task.{at}
use Rattle.kinds.specs.Policy.{meant}
use Rattle.kinds.specs.Answer.{accepted}
use Rattle.share.specs.Share.{period_at}
use Rattle.policy.specs.Under.{rows_under, loads_under}
use Rattle.outcome.specs.Plan.{processor_at}
use Rattle.plain_finder.specs.Asked.{asked}
use Rattle.sheet.specs.Rows.{granted}
use Rattle.sheet.specs.Reading.{read_sheet}
use Rattle.writer.specs.Canonical.{granted_in}

-- the period and the processor of task i at step k
abbrev pub granted_at : Sheet → ℕ → ℕ → Granted
granted_at x k i =
    let paid = rows_under x.settings x.table.rows x.table.n in
    let loads = loads_under x.settings x.table.rows x.table.n in
    granted (period_at x.settings.notch (at paid i) k) (processor_at (meant x.settings.policy) x.settings.m loads k i)

-- "accepts a sheet exactly when our plain finder accepts its settings and tasks, and every task has a stored result with the period and
-- processor it would give"
pub record Agrees (s : List ℕ) (x : Sheet) (k : ℕ) : Type 0 where
  pub reads : read_sheet s ≡ accepted x
  pub plans : asked x ≡ accepted k
  pub counted : x.results.n ≡ x.table.n
  pub each : (i : ℕ) → i < x.table.n → granted_in x i ≡ granted_at x k i
