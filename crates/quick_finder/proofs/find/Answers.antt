-- `quick_finder::find` meets its contract. Assumes nothing.
use Rattle.ground.proofs.Kit.{false, Ok}
use Rattle.outcome.proofs.Found.{may-grant}
use Rattle.quick_finder.proofs.Served.{looked-refused, looked-granted}
use Rattle.quick_finder.proofs.find.Goals as goal

pub grant-requires : goal.grant-requires
grant-requires c = may-grant false (Ok c.in-Ok.step) _ c.args.table.rows _ _ _ _ (rw (c.in-Ok.is, c.min-room.ensures) at c.find_step-looked.ensures.0.found)

pub returns-in-Ok : goal.returns-in-Ok
returns-in-Ok c = looked-granted _ _ _ _ _ _ _ (rw c.min-room.ensures at c.find_step-looked.ensures.0) _ c.in-Ok.is _ _ c.grant.ensures.0

pub returns-in_default : goal.returns-in_default
returns-in_default c = looked-refused _ _ _ _ _ _ _ (rw c.min-room.ensures at c.find_step-looked.ensures.0) _ c.in_default.is
