-- `rule::Job::share_at` meets its contract. Assumes nothing.
use Rattle.rule.proofs.Jobs.{share-is}
use Rattle.rule.proofs.Job.share_at.Goals as goal

pub returns : goal.returns
returns g c = share-is _ _ _ (g.met.Self.Job.limited _ c.requires) _ _ (cc)
