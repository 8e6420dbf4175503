-- `planner::fullest` meets its contract. The loop: the processor found so far, if there is one, has room. Assumes nothing.
use Rattle.planner.specs.Handover.{WithRoom}
use Rattle.planner.proofs.fullest.Given as goal

abbrev pub invariant-loop-j : goal.invariant-loop-j
invariant-loop-j l = WithRoom l.held l.load l.m l.found
