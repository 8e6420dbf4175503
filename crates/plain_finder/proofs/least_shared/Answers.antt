-- `plain_finder::least_shared` meets its contract. The loop: no step before k passes, the loads are the shares of step k, with their sum beside
-- them, and none has come to above S. Assumes nothing.
use Rattle.ground.proofs.Kit.{◌∙◌, ap, sym, arith}
use Rattle.springs.specs.Handover.{StaysLow}
use Rattle.springs.proofs.Shares.{share-most, let-down-most}
use Rattle.springs.proofs.Columns.{springy-beside, loaded-low}
use Rattle.policy.specs.Sides.{most_sum}
use Rattle.plain_finder.proofs.Stepping.{stepped-none, stepped-springy, stepped-most, stepped-loads, stepped-here, stepped-past, stepped-more, searched-from, full-beside}
use Rattle.plain_finder.proofs.least_shared.Goals as goal
use Rattle.plain_finder.proofs.least_shared.Goals.{After-let_down-sum}

pub loop-k-init : goal.loop-k-init
loop-k-init c = (stepped-none _ _ _ _ _ c.share_sum-sum.ensures, λ h. h)

pub passes_summed-requires : goal.passes_summed-requires
passes_summed-requires c =
    let t = c.args.test in
    let stepped = c.loop-k.invariant.0 in
    let count = stepped.beside.count ∙ c.share_sum-sum.ensures.loaded.beside.count in
    (stepped-loads _ _ _ _ _ _ stepped (springy-beside _ _ c.share_sum-sum.ensures.loaded.beside c.requires), stepped.added, c.most_sum-most.ensures ∙ ap (most_sum t.policy t.m) (sym count))

pub returns-then-passes_summed : goal.returns-then-passes_summed
returns-then-passes_summed c =
    let begun = c.share_sum-sum.ensures.loaded.beside in
    let full = full-beside _ _ begun in (
      searched-from _ _ _ _ _ _ begun
          (stepped-here _ _ _ _ _ _ c.loop-k.invariant.0 _ c.passes_summed.ensures c.if-passes_summed.true
          (omega (arith, full, c.full_compression-full.ensures, c.loop-k-test.true))),
      λ h. c.loop-k.invariant.1 (loaded-low _ _ _ _ c.share_sum-sum.ensures.loaded (λ i l. share-most _ (c.requires i l) 0) h),
    )

pub let_down-sum-requires : goal.let_down-sum-requires
let_down-sum-requires c =
    let stepped = c.loop-k.invariant.0 in
    let begun = springy-beside _ _ c.share_sum-sum.ensures.loaded.beside c.requires in
    (stepped-springy _ _ _ _ _ _ stepped begun, stepped-most _ _ _ _ _ _ stepped begun)

-- no load comes to above S as the shares are let down
lowered : (c : After-let_down-sum) → StaysLow c.loop-k.springs c.let_down-sum.new.self
lowered c =
    let stepped = c.loop-k.invariant.0 in
    let begun = springy-beside _ _ c.share_sum-sum.ensures.loaded.beside c.requires in
    let springy = stepped-springy _ _ _ _ _ _ stepped begun in
    let most = stepped-most _ _ _ _ _ _ stepped begun in
    loaded-low _ _ _ _ c.let_down-sum.ensures.loaded (λ i l. let-down-most _ (springy i l) _ (most i l))

pub loop-k-preserved : goal.loop-k-preserved
loop-k-preserved c = (
  stepped-more _ _ _ _ _ _ c.loop-k.invariant.0 _ c.passes_summed.ensures c.if-passes_summed.false _ _ c.let_down-sum.ensures,
  λ h. lowered c.before (c.loop-k.invariant.1 h),
)

pub returns-else-passes_summed : goal.returns-else-passes_summed
returns-else-passes_summed c =
    let begun = c.share_sum-sum.ensures.loaded.beside in
    let full = full-beside _ _ begun in
    let stepped = stepped-more _ _ _ _ _ _ c.loop-k.invariant.0 _ c.passes_summed.ensures c.if-passes_summed.false _ _ c.let_down-sum.ensures in (
      searched-from _ _ _ _ _ _ begun (stepped-past _ _ _ _ _ _ stepped (omega (arith, full, c.full_compression-full.ensures))),
      λ h. lowered c.before (c.loop-k.invariant.1 (loaded-low _ _ _ _ c.share_sum-sum.ensures.loaded (λ i l. share-most _ (c.requires i l) 0) h)),
    )
