-- `fit::first_fit` meets its contract. The loop over the tasks: the first i are placed, each by the rule; n − i falls. The loop over the
-- processors: none of the first j has room for the load; m − j falls. Assumes nothing.
use Rattle.ground.proofs.Kit.{refl, arith}
use Rattle.fit.specs.Fit.{load_in}
use Rattle.fit.proofs.Walk.{placed-none, placed-all, placed-stuck, placed-more}
use Rattle.fit.proofs.first_fit.Goals as goal
use Rattle.fit.proofs.first_fit.Goals.{else-tasks-test, then-tasks-test+then-m-j}

pub tasks-init : goal.tasks-init
tasks-init c = placed-none _ _ _

pub tasks-preserved : goal.tasks-preserved
tasks-preserved c =
    let most = c.requires.0.most _ c.tasks-test.true in
    placed-more _ (load_in c.args.loads.now) _ _ _ _ c.tasks.invariant c.tasks-test.true _ refl _ c.loop-j.invariant
    c.if-m-j.false (omega (arith, most)) c.requires.0.few

pub returns : goal.returns
returns c =
    let load = load_in c.args.loads.now in
    elim c.tasks-test.branch [
      | else-tasks-test w ↦ placed-all _ load _ _ _ _ c.tasks.invariant w.tasks-test.false
      | then-tasks-test+then-m-j w ↦
          placed-stuck _ load _ _ _ _ c.tasks.invariant w.tasks-test.true _ refl _ w.loop-j.invariant w.if-m-j.true
    ]
