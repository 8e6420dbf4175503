-- `sheet::row::read_section` meets its contract. Assumes nothing.
use Rattle.ground.proofs.Kit.{arith, refl, length}
use native.Mathlib.Nat.{mul-zero}
use Rattle.ground.specs.Folds.{list_to}
use Rattle.field.proofs.Fields.{got, missed}
use Rattle.sheet.proofs.Rows.{row-end, row_next, read-row}
use Rattle.sheet.proofs.row.read_section.Goals as goal

pub loop-row-init : goal.loop-row-init
unfolding list_to
loop-row-init g c = (omega (arith, mul-zero g.R.Row.size), (c.requires, refl))

pub returns-in_err-row : goal.returns-in_err-row
returns-in_err-row g c =
    let place = c.loop-row.invariant.0 in
    let short = missed _ _ _ _ c.in_err-row.ensures in
    let end = row-end g.R.Row.size c.loop-row.row-index (length c.args.rows.now) (omega arith) in
    rw c.from_residual.ensures (omega arith)

pub loop-row-preserved : goal.loop-row-preserved
loop-row-preserved g c =
    let so_far = c.loop-row.invariant in
    let row = got _ _ _ _ _ _ c.in_ok-row.ensures in
    let next = row_next g.R.Row.size c.loop-row.row-index in
    (omega arith, (omega arith, read-row _ g.R.Row.row_at c.args.s.now _ _ _ _ _ (omega arith) so_far.1.1 so_far.0 row.is))
