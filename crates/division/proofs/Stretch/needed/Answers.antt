-- `division::Stretch::needed` meets its contract. Assumes nothing.
use Rattle.ground.proofs.Kit.{sym, ◌∙◌}
use Rattle.springs.specs.Springs.{spring_in}
use Rattle.division.proofs.Lines.{need-line}
use Rattle.division.proofs.Stretches.{need-flatly}
use Rattle.division.proofs.Stretch.needed.Goals as goal

pub returns-then-w-eq0 : goal.returns-then-w-eq0
returns-then-w-eq0 c =
    let stretch = c.args.self in
    let s = c.args.springs.now in
    let same = need-flatly stretch.w (spring_in s) stretch.p stretch.sum stretch.fall s.n c.if-w-eq0.true in
    c.need.ensures.is ∙ (need-line _ _ _ _ _ _ c.line.ensures ∙ sym same)
