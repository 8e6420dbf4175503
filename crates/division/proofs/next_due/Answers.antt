-- `division::next_due` meets its contract. The loop: the nearest of the saturation steps so far that are above p is at hand. Assumes nothing.
use Rattle.ground.proofs.Kit.{sym, ◌∙◌, ap₂, arith}
use Rattle.springs.specs.Spring.{saturations}
use Rattle.springs.specs.Springs.{spring_in}
use Rattle.springs.proofs.Columns.{column_read, column_end, saturation-in}
use Rattle.division.specs.Next.{nearer}
use Rattle.division.proofs.Nexts.{next_start, next_more}
use Rattle.division.proofs.next_due.Goals as goal

pub loop-step-init : goal.loop-step-init
loop-step-init c = sym (next_start _ _)

pub loop-step-preserved : goal.loop-step-preserved
loop-step-preserved c =
    let s = c.args.springs.now in
    let i = c.loop-step.step-index in
    let read = column_read s.n i s.saturation (omega arith) c.loop-step-test.true in
    let nearest = ap₂ (nearer c.args.p) c.loop-step.invariant (read.1 ∙ saturation-in s c.requires i read.0) in
    c.nearer_of-nearest.ensures ∙ (nearest ∙ sym (next_more (saturations (spring_in s)) c.args.p i))

pub returns : goal.returns
returns c =
    let s = c.args.springs.now in
    let all = column_end s.n c.loop-step.step-index s.saturation (omega arith) c.loop-step-test.false (omega arith) in
    rw all at c.loop-step.invariant
