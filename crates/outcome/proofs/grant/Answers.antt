-- `outcome::grant` meets its contract. Assumes nothing.
use Rattle.ground.proofs.Kit.{List, ℕ, ◌++◌, sym, ◌∙◌, ap, arith, drop}
use Rattle.ground.proofs.Buffer.{list-taken}
use Rattle.outcome.proofs.Found.{may-granted}
use Rattle.outcome.proofs.grant.Goals as goal

pub write_periods-requires : goal.write_periods-requires
write_periods-requires c =
    let g = may-granted _ _ _ _ _ _ c.in-Ok.is c.requires in
    (g.periods-roomy, g.placeable.chargeable)

pub processors_at-placed-requires : goal.processors_at-placed-requires
processors_at-placed-requires c = (may-granted _ _ _ _ _ _ c.in-Ok.is c.requires).placeable

pub returns : goal.returns
returns c =
    let s = c.args.springs.now in
    let front = list-taken 0 c.processors_at-placed.result s.n (omega (arith, s.few)) in
    let placed = c.copy_from_slice.ensures.after ∙ (sym front ∙ c.processors_at-placed.ensures.0) in
    rw c.in-Ok.is (
      record {
        periods-are = c.write_periods.ensures;
        processors-are = ap (λ (l : List ℕ). l ++ drop s.n c.args.processors.now) placed;
      },
      c.processors_at-placed.ensures.1,
      c.processors_at-placed.ensures.2,
    )
