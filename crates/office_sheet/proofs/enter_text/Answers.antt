-- `office_sheet::enter_text` meets its contract: each way out is one law of `Entering`. Assumes nothing.
use Rattle.ground.proofs.Kit.{refl, sym, ◌∙◌, rules}
use Rattle.std.proofs.lemmas.Result.{err_from_is_err_and}
use Rattle.office.proofs.Answers.{refused-none}
use Rattle.office_sheet.proofs.Entering.{policy-bad, processors-bad, text-entered, text-refused, table-few, text-taken}
use Rattle.office_sheet.proofs.enter_text.Goals as goal

pub returns-in_err-p : goal.returns-in_err-p
returns-in_err-p c =
    let exit = err_from_is_err_and c.from_residual.result c.from_residual.ensures.1 in
    let none = c.in_err-p.ensures in
    rw (exit.1, exit.2, refused-none _ _ _ none.value none.ok_part) (policy-bad _ _ _ (sym c.setting_of.ensures ∙ none.ok_part), refl)

pub returns-in_err-m : goal.returns-in_err-m
returns-in_err-m c =
    let policy-is = sym c.setting_of.ensures ∙ c.in_ok-p.ensures.ok_part in
    let exit = err_from_is_err_and c.from_residual-in_err-m.result c.from_residual-in_err-m.ensures.1 in
    let none = c.in_err-m.ensures in
    rw (exit.1, exit.2, refused-none _ _ _ none.value none.ok_part)
    (processors-bad _ _ _ _ policy-is (sym c.setting_of-2.ensures ∙ none.ok_part), refl)

pub returns-in_err-table : goal.returns-in_err-table
returns-in_err-table c =
    let policy-is = sym c.setting_of.ensures ∙ c.in_ok-p.ensures.ok_part in
    let m = sym c.setting_of-2.ensures ∙ c.in_ok-m.ensures.ok_part in
    let exit = err_from_is_err_and c.from_residual-in_err-table.result c.from_residual-in_err-table.ensures.1 in
    rw (exit.1, exit.2) (text-entered _ _ _ _ policy-is _ m ∙ text-refused _ _ _ _ c.in_err-table.ensures _ refl, refl)

pub put_unfilled-requires : goal.put_unfilled-requires
put_unfilled-requires c = (table-few 0 0 _ _ c.in_ok-table.ensures, search rules)

pub returns : goal.returns
returns c =
    let policy-is = sym c.setting_of.ensures ∙ c.in_ok-p.ensures.ok_part in
    let m = sym c.setting_of-2.ensures ∙ c.in_ok-m.ensures.ok_part in
    rw (text-entered _ _ _ _ policy-is _ m ∙ text-taken _ _ _ _ c.in_ok-table.ensures _ refl) c.put_unfilled.ensures
