-- `plain_finder::least_shared` meets its contract. The loop: no step before k passes, the loads are the shares of step k, with their sum beside
-- them, and none has come to above S. Assumes nothing.
use Rattle.springs.specs.Handover.{StaysLow}
use Rattle.plain_finder.proofs.Stepping.{Stepped}
use Rattle.plain_finder.proofs.least_shared.Given as goal

abbrev pub invariant-loop-k : goal.invariant-loop-k
invariant-loop-k l = Stepped l.test.policy l.test.m l.k l.sum l.initial.springs l.springs × StaysLow l.initial.springs l.springs
