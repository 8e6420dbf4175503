-- `springs::Springs::full_compression` meets its contract. The loop: the greatest of the saturation steps so far is at hand.
-- Assumes nothing.
use Rattle.ground.proofs.Kit.{ℕ, sym, arith}
use Rattle.ground.proofs.Folds.{max_none, max-step}
use Rattle.springs.specs.Springs.{spring_in}
use Rattle.springs.proofs.Columns.{column_read, column_end}
use Rattle.springs.proofs.Springs.full_compression.Goals as goal

pub loop-step-init : goal.loop-step-init
loop-step-init c = sym (max_none _)

pub loop-step-preserved : goal.loop-step-preserved
unfolding spring_in
loop-step-preserved c =
    let s = c.args.self.now in
    let i = c.loop-step.step-index in
    let read = column_read s.n i s.saturation (omega arith) c.loop-step-test.true in
    max-step (λ (j : ℕ). (spring_in s j).saturation) i _ _ _ c.loop-step.invariant read.1 c.max-greatest.ensures

pub returns : goal.returns
returns c =
    let s = c.args.self.now in
    let all = column_end s.n c.loop-step.step-index s.saturation (omega arith) c.loop-step-test.false (omega arith) in
    rw all at c.loop-step.invariant
