-- `proposal::loads_of` meets its contract. The loop: each processor has the loads of those of the first tasks that are proposed for it.
-- Assumes nothing.
use Rattle.ground.proofs.Kit.{◌-◌, [], ◌∷◌, arith, rules, take, length, length-append}
use Rattle.fit.specs.Fit.{load_in}
use Rattle.proposal.specs.Proposal.{place_in}
use Rattle.std.proofs.lemmas.Slice.Zip.{zip_turn}
use Rattle.proposal.proofs.Loading.{Turn, turn, loading-none, loading-more}
use Rattle.proposal.proofs.loads_of.Goals as goal
use Rattle.proposal.proofs.loads_of.Goals.{After-from}

-- the task that is loaded
loaded : (c : After-from) → Turn c.args.springs.now.loads c.args.proposal.now c.args.springs.now.n (length c.loop-load.yielded) c.in-Some.field-0-0.now c.in-Some.field-0-1.now
loaded c =
    let start = c.into_iter-load-iterator.result in
    let loads = take c.args.springs.now.n c.args.springs.now.loads in
    let processors = take c.args.springs.now.n c.args.proposal.now in
    let z = zip_turn loads processors c.loop-load.yielded start c.loop-load.load-iterator c.next.new.self _ (search rules) (search rules)
    c.loop-load.yielded_by (c.in-Some.field-0-0, c.in-Some.field-0-1) c.in-Some.is c.next.ensures.steps in
    turn c.args.springs.now.loads c.args.proposal.now _ _ _ _ (omega (arith, c.args.springs.now.few)) c.requires.long z

pub loop-load-init : goal.loop-load-init
loop-load-init c = loading-none _ _ _

pub offset_bounds-held-from : goal.offset_bounds-held-from
offset_bounds-held-from c =
    let t = loaded c in
    let range = c.requires.each _ t.below in
    omega (arith, range.most, t.place_is, c.from.ensures)

pub overflow_add-held : goal.overflow_add-held
overflow_add-held c =
    let t = loaded c in
    let range = c.requires.each _ t.below in
    omega (
      arith,
      t.below,
      t.load_is,
      t.place_is,
      range.some,
      range.most,
      c.from.ensures,
      c.args.springs.now.few,
      c.requires.light.most _ t.below,
      c.loop-load.invariant.most (c.from.result - 1) (omega (arith, range.some, range.most, t.place_is, c.from.ensures)),
    )

pub loop-load-preserved : goal.loop-load-preserved
loop-load-preserved c =
    let t = loaded c in
    let range = c.requires.each _ t.below in
    let light = c.requires.light.most _ t.below in
    let more = length-append c.loop-load.yielded ((c.in-Some.field-0-0, c.in-Some.field-0-1) ∷ []) in
    rw more
    (loading-more (load_in c.args.springs.now.loads) (place_in c.args.proposal.now) _ _ _ c.loop-load.invariant _ _ t.load_is (omega (arith, light, t.load_is))
    (omega (arith, range, t.place_is, c.from.ensures)) (omega (arith, range, t.place_is, c.from.ensures)) t.below)
