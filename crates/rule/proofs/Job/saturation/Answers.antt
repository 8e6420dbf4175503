-- `rule::Job::saturation` meets its contract. Assumes nothing.
use Rattle.rule.proofs.Jobs.{saturation-is}
use Rattle.rule.proofs.Job.saturation.Goals as goal

pub returns : goal.returns
returns g c = saturation-is _ _ _ (g.met.Self.Job.limited _ c.requires) _ (cc)
