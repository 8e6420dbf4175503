-- `fit::first_fit` meets its contract. The loop over the tasks: the first i are placed, each by the rule; n − i falls. The loop over the
-- processors: none of the first j has room for the load; m − j falls. Assumes nothing.
use Rattle.ground.proofs.Kit.{◌-◌}
use Rattle.fit.specs.Fit.{load_in}
use Rattle.fit.proofs.Walk.{Placed, Passed}
use Rattle.fit.proofs.first_fit.Given as goal

abbrev pub invariant-loop-j : goal.invariant-loop-j
invariant-loop-j l = Passed l.m l.held l.load l.j

abbrev pub decreases-loop-j : goal.decreases-loop-j
decreases-loop-j l = l.m - l.j

abbrev pub invariant-tasks : goal.invariant-tasks
invariant-tasks l = Placed l.m (load_in l.loads) l.n l.held l.processors l.i

abbrev pub decreases-tasks : goal.decreases-tasks
decreases-tasks l = l.n - l.i
