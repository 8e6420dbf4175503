-- `wide_task::cores_at` meets its contract. Assumes nothing.
use Rattle.wide_task.specs.Cores.{share_at, period_at, cores_at}
use Rattle.wide_task.proofs.Tasks.{cores-is}
use Rattle.wide_task.proofs.cores_at.Goals as goal

pub returns : goal.returns
unfolding share_at period_at cores_at
returns c = cores-is _ c.requires _ _ (cc)
