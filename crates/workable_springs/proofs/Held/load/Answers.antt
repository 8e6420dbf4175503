-- `workable_springs::Held::load` leaves workable springs. Assumes nothing.
use Rattle.ground.proofs.Kit.{ℕ, sym, subst}
use Rattle.springs.specs.Handover.{Chargeable}
use Rattle.springs.proofs.Columns.{workable-beside, loaded-low, loads-most}
use Rattle.workable_springs.proofs.Held.load.Goals as goal

pub invariant_of-self : goal.invariant_of-self
invariant_of-self c =
    let held = c.args.self.now in
    let loaded = c.load.ensures in
    let may = subst (λ (q : ℕ). Chargeable q held.springs) (sym c.requires) held.work.allowed in
    let low = loaded-low _ _ _ _ loaded (loads-most c.args.settings held.springs may c.args.k) in
    record { work = workable-beside _ _ loaded.beside low held.work }
