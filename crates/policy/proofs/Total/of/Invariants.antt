-- `policy::Total::of` meets its contract. The loop: the total of the loads so far is at hand. Assumes nothing.
use Rattle.fit.specs.Fit.{load_in}
use Rattle.policy.specs.Handover.{TotalIs}
use Rattle.policy.proofs.Total.of.Given as goal

abbrev pub invariant-loop-load : goal.invariant-loop-load
invariant-loop-load l = TotalIs (load_in l.springs.loads) l.load-index l.sum l.max
