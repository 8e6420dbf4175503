-- `tidy::hand_on_candidate` meets its contract. Assumes nothing.
use Rattle.ground.proofs.Kit.{arith}
use Rattle.tidy.proofs.Tidying.{tidies-none, tidies-or}
use Rattle.tidy.proofs.hand_on_candidate.Goals as goal

pub returns-then-text-gt-LONGEST : goal.returns-then-text-gt-LONGEST
returns-then-text-gt-LONGEST c = tidies-none _ _ _ c.requires

pub returns-in_default : goal.returns-in_default
returns-in_default c =
    tidies-none _ _ _ c.requires

pub returns : goal.returns
returns c =
    tidies-or _ _ c.args.refusal c.requires (omega (arith, c.if-text-gt-LONGEST.false)) _ _ _ c.hand_on.ensures _ c.or.ensures
