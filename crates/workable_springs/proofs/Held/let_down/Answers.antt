-- `workable_springs::Held::let_down` leaves workable springs. Assumes nothing.
use Rattle.springs.proofs.Shares.{let-down-most}
use Rattle.springs.proofs.Columns.{workable-beside, loaded-low}
use Rattle.workable_springs.proofs.Held.let_down.Goals as goal

pub invariant_of-self : goal.invariant_of-self
invariant_of-self c =
    let held = c.args.self.now in
    let loaded = c.let_down.ensures.loaded in
    let low = loaded-low _ _ _ _ loaded (λ i l. let-down-most _ (held.work.allowed i l).within _ (held.work.low i)) in
    record { work = workable-beside _ _ loaded.beside low held.work }
