-- `filled_sheet::first_unlike` meets its contract. Assumes nothing.
-- The loop: none of the first i results differs.
use Rattle.ground.proofs.Kit.{sym, ◌∙◌, arith, true, ◌≡◌}
use Rattle.ground.proofs.First.{first-here}
use Rattle.filled_sheet.specs.Checked.{unlike}
use Rattle.filled_sheet.proofs.Compared.{differ-by_ne, none-unlike, unlike-found, unlike-nowhere}
use Rattle.filled_sheet.proofs.first_unlike.Goals as goal

pub returns-then-ne : goal.returns-then-ne
returns-then-ne c =
    let rows = c.args.results.rows in
    let due = c.args.due.rows in
    let here : unlike rows due c.loop-i.i ≡ true = sym (differ-by_ne _ _) ∙ (sym c.ne.ensures ∙ c.if-ne.true) in
    unlike-found rows due c.args.n _ (omega (arith, c.loop-i-test.true, c.min-i-end.ensures))
    (first-here (unlike rows due) _ _ c.loop-i.invariant (omega (arith, c.loop-i-test.true, c.min-i-end.ensures)) here)

pub returns : goal.returns
returns c =
    let rows = c.args.results.rows in
    let due = c.args.due.rows in
    unlike-nowhere rows due c.args.n
    (none-unlike rows due c.args.n c.loop-i.i c.well_formed.0.1.1.0.1.0.1 c.well_formed.1.0.1.1.0.1.0.1 c.loop-i.invariant
    (omega (arith, c.loop-i-test.false, c.min-i-end.ensures)))
