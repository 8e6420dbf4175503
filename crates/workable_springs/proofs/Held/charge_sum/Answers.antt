-- `workable_springs::Held::charge_sum` leaves workable springs. Assumes nothing.
use Rattle.springs.proofs.Shares.{charge-most}
use Rattle.springs.proofs.Columns.{workable-beside, loaded-low}
use Rattle.workable_springs.proofs.Held.charge_sum.Goals as goal

pub invariant_of-self : goal.invariant_of-self
invariant_of-self c =
    let held = c.args.self.now in
    let loaded = c.charge_sum.ensures.loaded in
    let low = loaded-low _ _ _ _ loaded (λ i l. charge-most _ _ (held.work.allowed i l) c.args.k) in
    record { work = workable-beside _ _ loaded.beside low held.work }
