-- Document 01, "Numbers we hand back": "The margin gives 1, 2, 3, 4, 6 only", and Ask 8: 15 "in the place of refusal 1".
-- Assumes nothing.
use Rattle.std.specs.Prelude.{ℕ, List, [], ◌∷◌, ◌++◌, ltb}
use Rattle.kinds.specs.declared.Task.{Task}
use Rattle.kinds.specs.declared.Settings.{Settings}
use Rattle.kinds.specs.declared.Refusal.TheVariants.{TooManyTasks, PolicyNotServed}
use Rattle.kinds.specs.Limits.{most_tasks}
use Rattle.kinds.specs.Policy.{meant, is_first_fit}
use Rattle.kinds.specs.Chain.{Check, ◌when◌}
use Rattle.admission.specs.Chain.{settings_chain, record_check}

-- the margin: "policy 4, asked of .. margin" is refused by 4, and nothing is lent
abbrev pub margin_chain : Settings → List Task → ℕ → List Check
margin_chain s rows n =
    settings_chain s
    ++ (TooManyTasks n when ltb most_tasks n
    ∷ PolicyNotServed when is_first_fit (meant s.policy)
    ∷ record_check s rows n
    ∷ [])
