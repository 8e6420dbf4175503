-- `change_over::change_over` meets its contract: it lends the part that `part_of` names. Assumes nothing.
use Rattle.ground.proofs.Kit.{arith}
use Rattle.change_over.specs.declared.Which.TheVariants.{Standing, Proposed}
use Rattle.change_over.proofs.Parts.{part-fits, lent_fits}
use Rattle.change_over.proofs.change_over.Goals as goal

pub overflow_add-end : goal.overflow_add-end
overflow_add-end c = omega (arith, (part-fits _ _ _ c.part_of-which.ensures).0)

pub slice_bounds-result-end : goal.slice_bounds-result-end
slice_bounds-result-end c =
    lent_fits _ _ c.args.standing.ref_ptr c.args.proposed.ref_ptr _ c.part_of-which.ensures Standing c.in-Standing.is

pub slice_bounds-result-end-in-Proposed : goal.slice_bounds-result-end-in-Proposed
slice_bounds-result-end-in-Proposed c =
    lent_fits _ _ c.args.standing.ref_ptr c.args.proposed.ref_ptr _ c.part_of-which.ensures Proposed c.in-Proposed.is
