-- `proposal::admit` meets its contract. Assumes nothing.
use Rattle.ground.proofs.Kit.{◌≡◌, sym, ◌∙◌, rules, Err}
use Rattle.proposal.proofs.Admitting.{gate-passed, refused-loaded, err-loaded, walked-workable, may-charge, well-loaded, well-workable}
use Rattle.proposal.proofs.admit.Goals as goal

pub returns-in_err-gate_of : goal.returns-in_err-gate_of
returns-in_err-gate_of c =
    let e : c.from_residual.result ≡ Err c.in_err-gate_of.field-0.0 = search rules in
    rw e (refused-loaded _ _ _ _ _ _ c.gate_of.ensures _ _ _ c.in_err-gate_of.was, λ h. h)

pub take_in-requires : goal.take_in-requires
take_in-requires c =
    let args = c.args in
    let passed = gate-passed args.settings args.table.n args.proposed args.room (sym c.gate_of.ensures ∙ c.in_ok-gate_of.was) in
    (passed.few.few, passed.notched)

pub returns-in_err-map_err : goal.returns-in_err-map_err
returns-in_err-map_err c =
    let e : c.from_residual-in_err-map_err.result ≡ Err c.in_err-map_err.field-0.0 = search rules in
    let refused =
    err-loaded _ _ _ _ _ _ c.gate_of.ensures c.in_ok-gate_of.was c.take_in.result _ c.take_in.ensures.0 c.map_err.result
    c.map_err.ensures.cases _ c.in_err-map_err.was _ _ in
    let args = c.args in
    let work =
    walked-workable args.settings args.table.rows args.table.n args.proposed args.room _ c.gate_of.ensures c.in_ok-gate_of.was c.take_in.result
    args.springs.now _ c.take_in.ensures.0 c.take_in.ensures.1 in
    rw e (refused, work)

pub load-requires : goal.load-requires
load-requires c =
    let args = c.args in
    may-charge args.settings args.table.rows args.table.n args.proposed args.room _ c.gate_of.ensures c.in_ok-gate_of.was c.take_in.result _
    c.take_in.ensures.0 c.map_err.result c.map_err.ensures.cases c.in_ok-map_err.was

pub returns : goal.returns
returns c =
    let args = c.args in (
      well-loaded _ _ _ _ _ _ c.gate_of.ensures c.in_ok-gate_of.was c.take_in.result _ c.take_in.ensures.0 c.map_err.result
          c.map_err.ensures.cases c.in_ok-map_err.was _ _ c.load.ensures,
      well-workable args.settings args.table.rows args.table.n args.proposed args.room _ c.gate_of.ensures c.in_ok-gate_of.was c.take_in.result _
          c.take_in.ensures.0 c.map_err.result c.map_err.ensures.cases c.in_ok-map_err.was _ args.springs.now _ c.load.ensures c.take_in.ensures.1,
    )
