-- `planned_clock::start_plan` meets its contract. Assumes nothing.
use Rattle.ground.proofs.Kit.{sym, length-take-le}
use Rattle.planned_clock.proofs.Accepted.{roomy, planned-well, never-refused}
use Rattle.planned_clock.proofs.start_plan.Goals as goal

pub slice_bounds-start-end : goal.slice_bounds-start-end
slice_bounds-start-end c = roomy _ _ _ _ _ _ _ _ c.in_ok-step.ensures c.find.auto.periods

pub slice_bounds-start-end-2 : goal.slice_bounds-start-end-2
slice_bounds-start-end-2 c = sym (length-take-le _ _ (roomy _ _ _ _ _ _ _ _ c.in_ok-step.ensures c.find.auto.periods))

pub returns-in_err-clock : goal.returns-in_err-clock
returns-in_err-clock c = never-refused _ _ _ _ _ _ _ c.in_err-clock.field-0.0 _ _ c.in_ok-step.ensures c.in_err-clock.ensures

pub returns : goal.returns
returns c = planned-well _ _ _ _ _ _ _ _ _ _ c.in_ok-step.ensures c.in_ok-clock.ensures
