-- `division::nearer_of` meets its contract. Assumes nothing.
use Rattle.ground.proofs.Kit.{sym, Some, None}
use Rattle.division.proofs.Nexts.{nearer-low, nearer-new}
use Rattle.division.proofs.nearer_of.Goals as goal

pub returns-then-x-p : goal.returns-then-x-p
returns-then-x-p c = sym (nearer-low _ _ _ c.if-x-p.true)

pub returns-in-Some : goal.returns-in-Some
returns-in-Some c = rw (c.min.ensures, c.in-Some.is) (sym (nearer-new _ (Some c.in-Some.found) _ c.if-x-p.false))

pub returns-in-None : goal.returns-in-None
returns-in-None c = rw c.in-None.is (sym (nearer-new _ None _ c.if-x-p.false))
