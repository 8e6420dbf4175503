-- `rule::Job::period_at` meets its contract. Assumes nothing.
use Rattle.rule.proofs.Jobs.{period-is}
use Rattle.rule.proofs.Job.period_at.Goals as goal

pub returns : goal.returns
returns g c = period-is _ _ _ (g.met.Self.Job.limited _ c.requires) _ _ (cc)
