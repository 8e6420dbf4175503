-- `quick_finder::search_columns` meets its contract. The loop: the last step looked at has failed, and the sum of its shares is at hand; the looks
-- that may still be made fall. Assumes nothing.
use Rattle.ground.proofs.Kit.{refl, sym, ◌∙◌, arith}
use Rattle.springs.specs.Springs.{spring_in}
use Rattle.quick_finder.proofs.Loop.{due-first, first_passes, first-fails, none-due, look-due, stretch, next-passes, next-fails}
use Rattle.quick_finder.proofs.search_columns.Goals as goal

pub look-search-requires : goal.look-search-requires
look-search-requires c = (c.requires.0, c.requires.1, omega arith, sym (due-first _ _ _ refl), λ later. absurd (omega arith))

pub returns-then-search : goal.returns-then-search
returns-then-search c =
    let s = c.args.springs.now in
    first_passes c.args.w (spring_in s) s.n _ _ refl c.look-search.ensures.0 c.if-search.true

pub loop-due-init : goal.loop-due-init
loop-due-init c =
    let s = c.args.springs.now in
    (first-fails c.args.w (spring_in s) s.n _ _ refl c.look-search.ensures.0 c.if-search.false, c.look-search.ensures.1)

pub look-search-requires-in-Some : goal.look-search-requires-in-Some
look-search-requires-in-Some c =
    let s = c.args.springs.now in
    let due = look-due c.args.w (spring_in s) s.n _ _ c.loop-due.invariant.0 (sym c.next_due.ensures ∙ c.in-Some.is) s.few in
    (c.requires.0, c.requires.1, due.0, due.1, due.2)

pub divide-step-requires : goal.divide-step-requires
divide-step-requires c =
    let s = c.args.springs.now in
    let one = c.look-search-in-Some.ensures.0 in
    let next = stretch c.args.w (spring_in s) s.n _ _ c.loop-due.invariant.0 (sym c.next_due.ensures ∙ c.in-Some.is) _ one in
    (c.requires.0, c.requires.1, next, rw one.from c.loop-due.invariant.1)

pub returns-then-search-2 : goal.returns-then-search-2
returns-then-search-2 c =
    let s = c.args.springs.now in
    next-passes c.args.w (spring_in s) s.n _ _ c.loop-due.invariant.0 (sym c.next_due.ensures ∙ c.in-Some.is) _ c.look-search-in-Some.ensures.0 _
    c.if-search-2.true c.divide-step.ensures

pub loop-due-smaller : goal.loop-due-smaller
loop-due-smaller c =
    let s = c.args.springs.now in
    let fails = next-fails c.args.w (spring_in s) s.n _ _ c.loop-due.invariant.0 (sym c.next_due.ensures ∙ c.in-Some.is) _ c.look-search-in-Some.ensures.0 in
    (fails c.if-search-2.false).1

pub loop-due-preserved : goal.loop-due-preserved
loop-due-preserved c =
    let s = c.args.springs.now in
    let fails = next-fails c.args.w (spring_in s) s.n _ _ c.loop-due.invariant.0 (sym c.next_due.ensures ∙ c.in-Some.is) _ c.look-search-in-Some.ensures.0 in
    ((fails c.if-search-2.false).0, c.look-search-in-Some.ensures.1)

pub returns : goal.returns
returns c = none-due _ _ _ c.loop-due.search c.loop-due.invariant.0 (sym c.next_due.ensures ∙ c.in_default.is)
