-- `rule::Job::least` meets its contract. Assumes nothing.
use Rattle.rule.proofs.Jobs.{least-is}
use Rattle.rule.proofs.Job.least.Goals as goal

pub returns : goal.returns
returns g c = least-is _ _ _ (g.met.Self.Job.limited _ c.requires) _ (cc)
