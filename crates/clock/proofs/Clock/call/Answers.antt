-- `clock::Clock::call` meets its contract. Assumes nothing.
use Rattle.ground.proofs.Kit.{arith, ◌∙◌, refl, None}
use Rattle.clock.specs.Call.{moved_on}
use Rattle.clock.proofs.Calls.{called-many, called-few, latest-front}
use Rattle.clock.proofs.Clock.call.Goals as goal

pub returns-then-self-gt-MOST_TASKS : goal.returns-then-self-gt-MOST_TASKS
returns-then-self-gt-MOST_TASKS c = called-many _ _ (omega arith)

pub returns-in_default : goal.returns-in_default
returns-in_default c =
    called-few _ _ (omega arith) None (c.in_default.ensures.listed ∙ latest-front c.args.self.now c.args.present (omega arith)) _ refl

pub returns : goal.returns
unfolding moved_on
returns c = called-few _ _ (omega arith) _ (c.in-Some.ensures.listed ∙ latest-front c.args.self.now c.args.present (omega arith)) _ refl
