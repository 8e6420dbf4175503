-- `proposal::loads_of` meets its contract. The loop: each processor has the loads of those of the first tasks that are proposed for it.
-- Assumes nothing.
use Rattle.ground.proofs.Kit.{length}
use Rattle.fit.specs.Fit.{load_in}
use Rattle.proposal.specs.Proposal.{place_in}
use Rattle.proposal.proofs.Loading.{Loading}
use Rattle.proposal.proofs.loads_of.Given as goal

abbrev pub invariant-loop-load : goal.invariant-loop-load
invariant-loop-load l = Loading (load_in l.springs.loads) (place_in l.proposal) l.springs.n l.held (length l.yielded)
