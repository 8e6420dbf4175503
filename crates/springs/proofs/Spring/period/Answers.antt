-- `springs::Spring::period` meets its contract. Assumes nothing.
use Rattle.springs.proofs.Shares.{share-some, still-allowed}
use Rattle.springs.proofs.Spring.period.Goals as goal

pub period_for-requires : goal.period_for-requires
period_for-requires c =
    let args = c.args in
    let pre = c.requires in
    rw c.share.ensures.0
    (pre.notch, share-some args.notch args.self pre args.k, still-allowed args.notch args.self pre args.k)
