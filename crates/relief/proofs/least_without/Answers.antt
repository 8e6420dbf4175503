-- `relief::least_without` meets its contract. Assumes nothing.
use Rattle.ground.proofs.Kit.{◌∙◌, ap}
use Rattle.kinds.specs.declared.Table.{Table}
use Rattle.keep.specs.Keep.{left_rows}
use Rattle.relief.specs.Relief.{least_told}
use Rattle.relief.proofs.least_without.Goals as goal

pub returns : goal.returns
unfolding left_rows
returns c =
    c.least_told.ensures ∙ ap (λ (t : Table). least_told c.args.settings t.rows t.n) c.without-rest.ensures
