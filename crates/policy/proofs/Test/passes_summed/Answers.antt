-- `policy::Test::passes_summed` meets its contract. Assumes nothing.
use Rattle.ground.proofs.Kit.{sym, arith}
use Rattle.fit.specs.Fit.{load_in}
use Rattle.policy.proofs.Tests.{too_much}
use Rattle.policy.proofs.Test.passes_summed.Goals as goal

pub returns-then-most-sum : goal.returns-then-most-sum
returns-then-most-sum c =
    let test = c.args.self in
    let s = c.args.springs.now in
    sym (too_much test.policy test.m (load_in s.loads) s.n test.few test.served (omega (arith, c.requires.1, c.requires.2)))
