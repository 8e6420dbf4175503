-- Document 01, "Numbers we hand back": the checks of the two finders, with the sentence of each number, in their order.
-- Assumes nothing.
use Rattle.ground.specs.Least.{Step}
use Rattle.std.specs.Prelude.{ℕ, Bool, true, false, List, [], ◌∷◌, ◌++◌, ltb, Some, None}
use Rattle.kinds.specs.declared.Task.{Task}
use Rattle.kinds.specs.declared.Settings.{Settings}
use Rattle.kinds.specs.declared.Refusal.TheVariants.{TooManyTasks, PolicyNotServed, OutputTooShort, NoStepPasses}
use Rattle.kinds.specs.Limits.{most_tasks}
use Rattle.kinds.specs.Policy.{meant, is_first_fit}
use Rattle.kinds.specs.Chain.{Check, ◌when◌}
use Rattle.policy.specs.Under.{least_under}
use Rattle.admission.specs.Chain.{settings_chain, record_check}

-- "no step from 0 to K passes": there is no least one
abbrev pub none_passes : Step → Bool
none_passes (Some k) = false
none_passes None = true

-- the step of an acceptance; 0 where there is none
abbrev pub step_in : Step → ℕ
step_in (Some k) = k
step_in None = 0

-- the last check of a finder
abbrev pub step_check : Settings → List Task → ℕ → Check
step_check s rows n = NoStepPasses when none_passes (least_under s rows n)

-- the plain finder, which serves every policy
abbrev pub plain_chain : Settings → List Task → ℕ → ℕ → List Check
plain_chain s rows n room =
    settings_chain s
    ++ (TooManyTasks n when ltb most_tasks n
    ∷ OutputTooShort n when ltb room n
    ∷ record_check s rows n
    ∷ step_check s rows n
    ∷ [])

-- the quick finder: "policy 4, asked of quick finder" is refused by 4
abbrev pub quick_chain : Settings → List Task → ℕ → ℕ → List Check
quick_chain s rows n room =
    settings_chain s
    ++ (TooManyTasks n when ltb most_tasks n
    ∷ PolicyNotServed when is_first_fit (meant s.policy)
    ∷ OutputTooShort n when ltb room n
    ∷ record_check s rows n
    ∷ step_check s rows n
    ∷ [])
