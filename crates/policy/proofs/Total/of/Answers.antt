-- `policy::Total::of` meets its contract. The loop: the total of the loads so far is at hand. Assumes nothing.
use Rattle.ground.proofs.Kit.{arith}
use Rattle.fit.specs.Fit.{load_in}
use Rattle.springs.proofs.Columns.{column_read, column_end}
use Rattle.policy.proofs.Totals.{total-none, total-more}
use Rattle.policy.proofs.Total.of.Goals as goal

pub loop-load-init : goal.loop-load-init
loop-load-init c = total-none _

pub overflow_add-sum : goal.overflow_add-sum
overflow_add-sum c =
    let s = c.args.springs.now in
    let i = c.loop-load.load-index in
    let read = column_read s.n i s.loads (omega arith) c.loop-load-test.true in
    omega (arith, read.0, read.1, c.requires.most i read.0, c.loop-load.invariant.added.most)

pub loop-load-preserved : goal.loop-load-preserved
loop-load-preserved c =
    let s = c.args.springs.now in
    let i = c.loop-load.load-index in
    let read = column_read s.n i s.loads (omega arith) c.loop-load-test.true in
    total-more (load_in s.loads) _ _ _ _ _ c.loop-load.invariant read.1 (omega (arith, read.1, c.requires.most i read.0)) c.max-max.ensures

pub returns : goal.returns
returns c =
    let s = c.args.springs.now in
    let all = column_end s.n c.loop-load.load-index s.loads (omega arith) c.loop-load-test.false (omega arith) in
    rw (c.from.ensures, c.from-2.ensures, ← all) c.loop-load.invariant
