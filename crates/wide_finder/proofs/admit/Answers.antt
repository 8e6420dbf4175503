-- `wide_finder::admit` meets its contract: each check is a law of `Admitting`. Assumes nothing.
use Rattle.std.proofs.Common.{rules, arith}
use Rattle.wide_finder.proofs.Admitting.{gate-refuses, room-refuses, few-in, bad-refuses, few-rows, good-in, lets-in}
use Rattle.wide_finder.proofs.admit.Goals as goal

pub returns-in_err-gate-clause-refuses : goal.returns-in_err-gate-clause-refuses
returns-in_err-gate-clause-refuses c =
    let refused = gate-refuses c.args.m c.args.table.now c.args.room c.misset.ensures c.gate.ensures _ c.in_err-gate.was in
    search rules

pub returns-in_err-roomy-clause-refuses : goal.returns-in_err-roomy-clause-refuses
returns-in_err-roomy-clause-refuses c =
    let refused = room-refuses c.args.m c.args.table.now c.args.room c.misset.ensures c.gate.ensures c.in_ok-gate.was c.roomy.ensures _ c.in_err-roomy.was in
    search rules

pub shared_ref_as_front-rows : goal.shared_ref_as_front-rows
shared_ref_as_front-rows c = few-in c.args.m c.args.table.now c.args.room c.misset.ensures c.gate.ensures c.in_ok-gate.was c.roomy.ensures

pub returns-in-Some-clause-refuses : goal.returns-in-Some-clause-refuses
returns-in-Some-clause-refuses c =
    bad-refuses c.args.m c.args.table.now c.args.room c.misset.ensures c.gate.ensures c.in_ok-gate.was c.roomy.ensures c.in_ok-roomy.was (omega arith) c.first_bad.ensures _ c.in-Some.is

pub invariant_of-result-clause-few : goal.invariant_of-result-clause-few
invariant_of-result-clause-few c =
    few-rows c.args.m c.args.table.now c.args.room c.misset.ensures c.gate.ensures c.in_ok-gate.was c.roomy.ensures c.in_ok-roomy.was (omega arith) c.first_bad.ensures c.in_default.is

pub invariant_of-result-clause-good : goal.invariant_of-result-clause-good
invariant_of-result-clause-good c =
    good-in c.args.m c.args.table.now c.args.room c.misset.ensures c.gate.ensures c.in_ok-gate.was c.roomy.ensures c.in_ok-roomy.was (omega arith) c.first_bad.ensures c.in_default.is

pub returns-clause-admits : goal.returns-clause-admits
returns-clause-admits c =
    lets-in c.args.m c.args.table.now c.args.room c.misset.ensures c.gate.ensures c.in_ok-gate.was c.roomy.ensures c.in_ok-roomy.was (omega arith) c.first_bad.ensures c.in_default.is
