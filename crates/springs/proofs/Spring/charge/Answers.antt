-- `springs::Spring::charge` meets its contract. Assumes nothing.
use Rattle.ground.proofs.Kit.{◌≤◌, ◌≡◌, ◌∙◌, ap, ap₂, arith}
use Rattle.kinds.specs.Limits.{scale, longest_period}
use Rattle.rule.specs.Rule.{part_of}
use Rattle.springs.specs.Spring.{share_on, charge_for, period_for}
use Rattle.springs.proofs.Shares.{share-some, still-allowed, charge-most}
use Rattle.springs.proofs.Spring.charge.Goals as goal
use Rattle.springs.proofs.Spring.charge.Goals.{After-part, After-share-share}

-- the share is worked out of the call as it was made
allowed : (c : After-share-share) → let args = c.args in
    (1 ≤ args.notch) × (1 ≤ c.share-share.result) × (period_for args.notch args.self c.share-share.result ≤ longest_period)
allowed c =
    let pre = c.requires in
    let args = c.args in
    rw c.share-share.ensures.0
    (pre.notch, share-some args.notch args.self pre args.k, still-allowed args.notch args.self pre args.k)

charged : (c : After-part) → let args = c.args in c.part.result ≡ charge_for args.notch args.self (share_on args.self args.k)
charged c =
    let args = c.args in
    let period = c.period_for-period.ensures ∙ ap (period_for args.notch args.self) c.share-share.ensures.0 in
    c.part.ensures ∙ ap₂ part_of c.from.ensures period

most : (c : After-part) → c.part.result ≤ scale
most c = let args = c.args in omega (arith, charged c, charge-most args.notch args.self c.requires args.k)

pub period_for-period-requires : goal.period_for-period-requires
period_for-period-requires c = allowed c.before.before

pub overflow_cast-result : goal.overflow_cast-result
overflow_cast-result c = omega (arith, most c)

pub returns : goal.returns
returns c = (charged c, most c)
