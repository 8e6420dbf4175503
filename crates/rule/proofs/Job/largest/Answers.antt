-- `rule::Job::largest` meets its contract. Assumes nothing.
use Rattle.rule.proofs.Jobs.{largest-is}
use Rattle.rule.proofs.Job.largest.Goals as goal

pub returns : goal.returns
returns g c = largest-is _ _ _ (g.met.Self.Job.limited _ c.requires) _ (cc)
