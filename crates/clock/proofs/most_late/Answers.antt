-- `clock::most_late` meets its contract. Assumes nothing.
use Rattle.ground.proofs.Kit.{arith, rules, length}
use Rattle.clock.proofs.Greatest.{walked_none, walked_here, walked-past, walked_all, later-is, later-not}
use Rattle.clock.proofs.most_late.Goals as goal
use Rattle.clock.proofs.most_late.Goals.{in-Some+then-is_none_or, in-Some+else-is_none_or, in_default}

pub loop-task-init : goal.loop-task-init
loop-task-init c = walked_none _

pub loop-task-preserved : goal.loop-task-preserved
loop-task-preserved c =
    elim c.match-ticks_behind.branch [
      | in-Some+then-is_none_or w ↦
          let more = later-is w.in-Some.ticks c.loop-task.latest w.is_none_or.result (search rules) w.if-is_none_or.true in
          rw w.latest-is (walked_here _ _ _ _ w.in-Some.ensures more c.loop-task.invariant)
      | in-Some+else-is_none_or w ↦
          let no_more = later-not w.in-Some.ticks c.loop-task.latest w.is_none_or.result (search rules) w.if-is_none_or.false in
          rw w.latest-is (walked-past _ _ _ (omega (arith, w.in-Some.ensures)) c.loop-task.invariant)
      | in_default w ↦ rw w.latest-is (walked-past _ _ _ (omega (arith, w.in_default.ensures)) c.loop-task.invariant)
    ]

pub returns-in_err-task-clause-listed : goal.returns-in_err-task-clause-listed
returns-in_err-task-clause-listed c =
    let all = walked_all _ _ (length c.args.next.now) _ (omega arith) c.loop-task.invariant in
    rw c.from_residual.ensures (rw c.in_err-task.was at all)

pub returns-clause-listed : goal.returns-clause-listed
returns-clause-listed c =
    let all = walked_all _ _ (length c.args.next.now) _ (omega arith) c.loop-task.invariant in
    rw c.in_ok-task.was at all
