-- Document 01, "Numbers we hand back": the checks of a call that asks for a policy, with the sentence of each number, in their order.
-- Assumes nothing.
use Rattle.std.specs.Prelude.{ℕ, Bool, not, List, [], ◌∷◌, ◌++◌, ltb}
use Rattle.ground.specs.Choice.{both}
use Rattle.kinds.specs.declared.Task.{Task}
use Rattle.kinds.specs.declared.Settings.{Settings}
use Rattle.kinds.specs.declared.Refusal.TheVariants.{NoSuchPolicy, PolicyWithdrawn, Misset, TooManyTasks, PolicyNotServed, OutputTooShort, BadRecord}
use Rattle.kinds.specs.Limits.{most_tasks}
use Rattle.kinds.specs.Policy.{meant, is_first_fit, is_withdrawn, is_further}
use Rattle.kinds.specs.Chain.{Check, ◌when◌}
use Rattle.share.specs.Table.{first_bad}
use Rattle.admission.specs.Admission.{misset_under}

-- the front of every chain of a call that asks for a policy: "policy is not 1 to 5", and "in the place of refusal 1" it is withdrawn; "m is 0 or
-- above 16", and what the later settings and policy 5 are refused for by 2
abbrev pub settings_chain : Settings → List Check
settings_chain s =
    let p = meant s.policy in
    NoSuchPolicy when is_further p ∷ PolicyWithdrawn when is_withdrawn p ∷ Misset when misset_under s ∷ []

-- "a record is not good": the first such record
abbrev pub record_check : Settings → List Task → ℕ → Check
record_check s rows n =
    let bad = first_bad s.swap s.notch rows n in
    BadRecord bad when ltb bad n

-- "more than 32 tasks"; "policy 4, asked of" a call that does not serve it; "a lent output holds fewer entries than needed"
abbrev pub admission_chain : Bool → Settings → List Task → ℕ → ℕ → List Check
admission_chain serves s rows n room =
    settings_chain s
    ++ (TooManyTasks n when ltb most_tasks n
    ∷ PolicyNotServed when both (is_first_fit (meant s.policy)) (not serves)
    ∷ OutputTooShort n when ltb room n
    ∷ record_check s rows n
    ∷ [])
