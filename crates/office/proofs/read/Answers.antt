-- `office::read` meets its contract. Assumes nothing.
-- The loop: the lines left after those read give the whole reading; the rows that a table still has room for fall.
use Rattle.ground.proofs.Kit.{sym, ◌∙◌}
use Rattle.std.proofs.lemmas.Result.{err_from_is_err_and}
use Rattle.office.proofs.Lines.{going-none, going-many, going-bad, going_more}
use Rattle.office.proofs.Answers.{refused-none, reads-not, reads_short, reads-done}
use Rattle.office.proofs.read.Goals as goal

pub loop-at-init : goal.loop-at-init
loop-at-init c = going-none _

pub returns-then-n-ge-MOST_TASKS : goal.returns-then-n-ge-MOST_TASKS
returns-then-n-ge-MOST_TASKS c =
    reads-not _ _ _ (going-many _ _ _ _ c.loop-at.invariant c.loop-at-test.true c.if-n-ge-MOST_TASKS.true)

pub returns-in_err-row : goal.returns-in_err-row
returns-in_err-row c =
    let exit = err_from_is_err_and c.from_residual.result c.from_residual.ensures.1 in
    let none = c.in_err-row.ensures in
    let bad = going-bad _ _ _ _ c.loop-at.invariant c.loop-at-test.true c.if-n-ge-MOST_TASKS.false (sym c.line_at.ensures ∙ none.ok_part) in
    rw (exit.1, exit.2, refused-none _ _ _ none.value none.ok_part) (reads-not _ _ _ bad)

pub loop-at-preserved : goal.loop-at-preserved
loop-at-preserved c =
    going_more _ _ _ _ c.loop-at.invariant c.loop-at-test.true c.if-n-ge-MOST_TASKS.false _ _
    (sym c.line_at.ensures ∙ c.in_ok-row.ensures.ok_part)

pub returns-then-room-n : goal.returns-then-room-n
returns-then-room-n c =
    reads_short _ _ _ _ _ c.loop-at.invariant c.loop-at-test.false c.if-room-n.true

pub returns : goal.returns
returns c =
    rw c.new.ensures (reads-done _ _ _ _ _ c.loop-at.invariant c.loop-at-test.false c.if-room-n.false)
