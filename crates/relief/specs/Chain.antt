-- Document 01, "Numbers we hand back": the checks of the relief, with the sentence of each number, in their order.
-- Assumes nothing.
use Rattle.std.specs.Prelude.{ℕ, List, [], ◌∷◌, ◌++◌, ltb}
use Rattle.kinds.specs.declared.Task.{Task}
use Rattle.kinds.specs.declared.Settings.{Settings}
use Rattle.kinds.specs.declared.Refusal.TheVariants.{TooManyTasks, OutputTooShort}
use Rattle.kinds.specs.Limits.{most_tasks}
use Rattle.kinds.specs.Chain.{Check, ◌when◌}
use Rattle.admission.specs.Chain.{settings_chain, record_check}

-- those of the plain finder, but for its last: that no step passes is told, and not refused
abbrev pub relief_chain : Settings → List Task → ℕ → ℕ → List Check
relief_chain s rows n room =
    settings_chain s
    ++ (TooManyTasks n when ltb most_tasks n
    ∷ OutputTooShort n when ltb room n
    ∷ record_check s rows n
    ∷ [])
