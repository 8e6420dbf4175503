-- `field::read` meets its contract. Assumes nothing.
use Rattle.ground.proofs.Kit.{arith, sym, ◌∙◌, ⊎_elim}
use Rattle.field.proofs.Fields.{front-got, front-missed, there, missing}
use Rattle.field.proofs.Numbers.{number-left}
use Rattle.field.proofs.read.Goals as goal

pub returns-in_err-get : goal.returns-in_err-get
returns-in_err-get g c =
    let short = c.in_err-get.ensures.lookup.0 in
    c.from_residual.ensures ∙ sym (missing _ _ _ _ (⊎_elim (λ h. omega arith) (λ h. absurd (omega arith)) short))

pub returns-in_err-number : goal.returns-in_err-number
returns-in_err-number g c =
    let left = c.in_ok-get.ensures.lookup.0 in
    let short = front-missed _ _ _ c.in_err-number.ensures in
    c.from_residual-in_err-number.ensures ∙ sym (missing _ _ _ _ (omega arith))

pub overflow_add-result : goal.overflow_add-result
overflow_add-result g c =
    let left = c.in_ok-get.ensures.lookup.0 in
    let there = front-got _ _ _ _ c.in_ok-number.ensures in
    omega arith

pub returns : goal.returns
returns g c =
    let left = c.in_ok-get.ensures.lookup.0 in
    let first = front-got _ _ _ _ c.in_ok-number.ensures in
    let bytes = left.2 in
    let value = rw (bytes, number-left _ c.args.s.now c.args.at left.0) at first.1 in
    rw c.SIZE.ensures (rw value (sym (there _ _ _ _ (omega arith))))
