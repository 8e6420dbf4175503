-- `admission::admit` meets its contract. Assumes nothing.
use Rattle.ground.proofs.Kit.{◌≡◌, sym, ◌∙◌, rules, Err}
use Rattle.springs.proofs.Columns.{taken-workable}
use Rattle.admission.proofs.Opened.{may-walk, admitted-sprung, refused-sprung}
use Rattle.admission.proofs.admit.Goals as goal

pub returns-in_err-gate_of : goal.returns-in_err-gate_of
returns-in_err-gate_of c =
    let e : c.from_residual.result ≡ Err c.in_err-gate_of.field-0.0 = search rules in
    rw e (refused-sprung _ _ _ _ _ _ _ c.requires.notch (sym c.gate_of.ensures ∙ c.in_err-gate_of.was), λ h. h)

pub take_in-requires : goal.take_in-requires
take_in-requires c =
    let args = c.args in
    let walk = may-walk args.serves args.settings args.table.now.n args.room c.gate_of.ensures c.in_ok-gate_of.was in
    walk

pub returns : goal.returns
returns c =
    let args = c.args in
    let opens = sym c.gate_of.ensures ∙ c.in_ok-gate_of.was in
    let walk = may-walk args.serves args.settings args.table.now.n args.room c.gate_of.ensures c.in_ok-gate_of.was in
    let taken = c.take_in.ensures in (
      admitted-sprung _ _ _ _ _ _ _ opens taken.0 _ c.map_err.ensures.cases,
      taken-workable _ _ _ _ _ _ taken.0 walk.1 args.springs.now taken.1,
    )
