-- `workable_springs::Held::grant` may be called on workable springs that pass, and leaves such. Assumes nothing.
use Rattle.ground.proofs.Kit.{ℕ, subst}
use Rattle.springs.specs.Handover.{Chargeable}
use Rattle.springs.proofs.Columns.{workable-beside}
use Rattle.workable_springs.proofs.Held.grant.Goals as goal

pub grant-requires : goal.grant-requires
grant-requires c t =
    let asked = c.requires in
    let held = c.args.self.now in
    record {
      periods-roomy = asked.0;
      processors-roomy = asked.1;
      placeable =
          record {
            chargeable = subst (λ (q : ℕ). Chargeable q held.springs) asked.2 held.work.allowed;
            m-most = asked.3;
            passing = asked.4;
          };
    }

pub invariant_of-self : goal.invariant_of-self
invariant_of-self c = record { work = workable-beside _ _ c.grant.ensures.2 c.grant.ensures.1 c.args.self.now.work }
