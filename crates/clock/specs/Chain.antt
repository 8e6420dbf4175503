-- Ask 12: the checks of a clock's start and of a call, with the sentence of each number, in their order.
-- Assumes nothing.
use Rattle.std.specs.Prelude.{ℕ, List, [], ◌∷◌, length, nat_lt}
use Rattle.kinds.specs.declared.Refusal.TheVariants.{TooManyTasks, BadPeriod}
use Rattle.kinds.specs.Limits.{most_tasks}
use Rattle.kinds.specs.Chain.{Check, ◌when◌}
use Rattle.clock.specs.declared.Clock.{Clock}
use Rattle.clock.specs.Start.{first_bad}

-- "More than 32 tasks, at the start .., are refused by 3; .. then the first period that is 0 or above 1,000,000,000 by 17 at its task"
abbrev pub start_chain : List ℕ → List Check
start_chain periods =
    TooManyTasks (length periods) when nat_lt most_tasks (length periods)
    ∷ BadPeriod (first_bad periods) when nat_lt (first_bad periods) (length periods)
    ∷ []

-- "More than 32 tasks, .. in a call, are refused by 3"
abbrev pub call_chain : Clock → List Check
call_chain c = TooManyTasks c.n when nat_lt most_tasks c.n ∷ []
