-- `division::Stretch::need_over` meets its contract. The loop: the greatest need of no task and of the first i is at hand; n − i falls.
-- Assumes nothing.
use Rattle.ground.proofs.Kit.{max, ◌≡◌, sym, ◌∙◌, ap₂, arith}
use Rattle.springs.specs.Spring.{share_on}
use Rattle.springs.specs.Springs.{spring_in}
use Rattle.division.specs.Division.{slope}
use Rattle.division.specs.Handover.{LineIs}
use Rattle.division.proofs.Lines.{need-line}
use Rattle.division.proofs.Stretches.{need-none, need-more}
use Rattle.division.proofs.Stretch.need_over.Goals as goal

pub loop-i-init : goal.loop-i-init
loop-i-init c =
    let need = c.need-hardest.ensures in
    record { is = need.is ∙ (need-line _ _ _ _ _ _ c.line.ensures ∙ sym (need-none _ _ _ _ _)); most = need.most }

pub line_of-requires : goal.line_of-requires
line_of-requires c = rw c.spring.ensures (c.requires c.loop-i.i (omega arith))

pub loop-i-preserved : goal.loop-i-preserved
loop-i-preserved c =
    let stretch = c.args.self in
    let i = c.loop-i.i in
    let springs = spring_in c.args.springs.now in
    let line : LineIs stretch.w stretch.sum stretch.fall (share_on (springs i) stretch.p) (slope (springs i) stretch.p) c.line_of.result =
    rw c.spring.ensures at c.line_of.ensures in
    let harder = c.harder-hardest.ensures in
    let more = need-more stretch.w springs stretch.p stretch.sum stretch.fall i in
    record { is = harder.is ∙ (ap₂ max c.loop-i.invariant.is (need-line _ _ _ _ _ _ line) ∙ sym more); most = harder.most }

pub returns : goal.returns
returns c =
    let all : c.loop-i.i ≡ c.args.springs.now.n = omega arith in
    (rw all at c.loop-i.invariant).is
