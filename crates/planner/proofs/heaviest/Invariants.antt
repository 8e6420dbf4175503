-- `planner::heaviest` meets its contract. The loop: the task found so far is one of the n. Assumes nothing.
use Rattle.ground.proofs.Kit.{◌<◌}
use Rattle.planner.proofs.heaviest.Given as goal

abbrev pub invariant-loop-i : goal.invariant-loop-i
invariant-loop-i l = l.found < l.n
