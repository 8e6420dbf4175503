-- `halve::least_step` meets its contract. The loop: the least step that passes is one of those left, nothing but loads has moved, none of
-- them to above S, and what is left falls. Assumes nothing.
use Rattle.ground.proofs.Kit.{◌-◌}
use Rattle.springs.specs.Springs.{spring_in}
use Rattle.springs.specs.Handover.{Beside, StaysLow}
use Rattle.policy.specs.Weighed.{charged_at}
use Rattle.halve.proofs.Going.{Going}
use Rattle.halve.proofs.least_step.Given as goal

abbrev pub invariant-loop-range : goal.invariant-loop-range
invariant-loop-range l =
    let s = l.initial.springs in
    Going (charged_at l.w s.notch (spring_in s) s.n) l.full l.range × Beside s l.springs × StaysLow s l.springs

abbrev pub decreases-loop-range : goal.decreases-loop-range
decreases-loop-range l = l.range.to - l.range.from
