-- `office::export` meets its contract. Assumes nothing.
use Rattle.ground.proofs.Kit.{◌∙◌, ap, arith, length}
use Rattle.std.proofs.lemmas.Result.{err_from_is_err_and}
use Rattle.office.proofs.Answers.{refused-none, text-first, exports-many, exports-short, exports-done}
use Rattle.office.proofs.export.Goals as goal

pub returns-in_err-rows : goal.returns-in_err-rows
returns-in_err-rows c =
    let exit = err_from_is_err_and c.from_residual.result c.from_residual.ensures.1 in
    let none = c.in_err-rows.ensures in
    let past = rw none.ok_part at c.get.ensures.lookup in
    rw (exit.1, exit.2, refused-none _ _ _ none.value none.ok_part) (exports-many _ _ _ (omega (arith, past.0)))

pub returns-then-out-needed : goal.returns-then-out-needed
returns-then-out-needed c =
    let got = rw c.in_ok-rows.ensures.ok_part at c.get.ensures.lookup in
    let text = text-first c.args.table.rows c.in_ok-rows.rows.now c.args.table.n got.0.2 got.0.1 in
    exports-short _ _ _ (omega (arith, got.0.1)) _ (c.text_width-needed.ensures.is ∙ ap length text) c.if-out-needed.true

pub returns : goal.returns
returns c =
    let got = rw c.in_ok-rows.ensures.ok_part at c.get.ensures.lookup in
    let text = text-first c.args.table.rows c.in_ok-rows.rows.now c.args.table.n got.0.2 got.0.1 in
    exports-done _ _ _ (omega (arith, got.0.1)) (omega (arith, ap length text, c.text_width-needed.ensures.is)) _ _ (rw text at c.put_text.ensures)
