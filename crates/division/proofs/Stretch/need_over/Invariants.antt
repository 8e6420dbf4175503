-- `division::Stretch::need_over` meets its contract. The loop: the greatest need of no task and of the first i is at hand; n − i falls.
-- Assumes nothing.
use Rattle.ground.proofs.Kit.{◌-◌}
use Rattle.springs.specs.Springs.{spring_in}
use Rattle.division.specs.Division.{need_to}
use Rattle.division.specs.Handover.{NeedIs}
use Rattle.division.proofs.Stretch.need_over.Given as goal

abbrev pub invariant-loop-i : goal.invariant-loop-i
invariant-loop-i l = NeedIs (need_to l.self.w (spring_in l.springs) l.self.p l.self.sum l.self.fall l.i) l.hardest

abbrev pub decreases-loop-i : goal.decreases-loop-i
decreases-loop-i l = l.i-end - l.i
