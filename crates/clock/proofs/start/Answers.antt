-- `clock::start` meets its contract. Assumes nothing.
use Rattle.ground.proofs.Kit.{arith, not, rules}
use Rattle.std.proofs.Common.{tests}
use Rattle.std.proofs.lemmas.Iterator.{YieldsList-from_slice}
use Rattle.std.proofs.lemmas.Iterator.Search.{position_from_yields_List}
use Rattle.clock.specs.Start.{is_period}
use Rattle.clock.proofs.Starts.{started-many, sought-bad, sought-well}
use Rattle.clock.proofs.start.Goals as goal

pub returns-then-n-gt-MOST_TASKS : goal.returns-then-n-gt-MOST_TASKS
returns-then-n-gt-MOST_TASKS c = started-many _ _ (omega arith)

pub returns-in-Some : goal.returns-in-Some
returns-in-Some c =
    let sought =
    position_from_yields_List (λ ticks. not (is_period ticks)) _ _ c.position.result c.position.ensures.ran (YieldsList-from_slice c.args.periods.now cc)
    (λ x b q k. search (rules, tests)) in
    sought-bad _ _ c.in-Some.bad (omega arith) (rw c.in-Some.is at sought)

pub returns-in-None : goal.returns-in-None
returns-in-None c =
    let sought =
    position_from_yields_List (λ ticks. not (is_period ticks)) _ _ c.position.result c.position.ensures.ran (YieldsList-from_slice c.args.periods.now cc)
    (λ x b q k. search (rules, tests)) in
    rw c.clock_from.ensures (sought-well _ _ (omega arith) (rw c.in-None.is at sought))
