-- `planner::best_fit` stays in bounds and ends. The loop: no load that is left is above S. Assumes nothing.
use Rattle.fit.specs.Handover.{Loads}
use Rattle.planner.proofs.best_fit.Given as goal

abbrev pub invariant-loop : goal.invariant-loop
invariant-loop l = Loads l.loads l.n
