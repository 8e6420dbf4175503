-- "Given exactly when", of the two finders: `plain-exactly`, `quick-exactly`, and of every answer that meets their promises, `plain-answers`,
-- `quick-answers`; the numbers that each gives are `plain-numbers` and `quick-numbers`.
-- Assumes nothing.
use Rattle.ground.specs.Least.{Step}
use Rattle.ground.proofs.Kit.{ℕ, ◌+◌, ◌≤◌, min, Bool, true, false, not, List, [], ◌∷◌, ◌++◌, ◌≡◌, refl, sym, ◌∙◌, ap, arith, ltb, length, Ok, Err, Some, None}
use Rattle.ground.specs.Choice.{both}
use Rattle.ground.proofs.Cases.{true-false}
use Rattle.ground.proofs.Least.{least-none}
use Rattle.kinds.specs.declared.Task.{Task}
use Rattle.kinds.specs.declared.Settings.{Settings}
use Rattle.kinds.specs.declared.Refusal.TheVariants.{TooManyTasks, PolicyNotServed, OutputTooShort, NoStepPasses}
use Rattle.kinds.specs.Answer.{Handed, accepted, refused, handed, Answer, Verdict}
use Rattle.kinds.specs.Limits.{most_tasks}
use Rattle.kinds.specs.Policy.{meant, is_first_fit}
use Rattle.kinds.specs.Chain.{Check, ◌when◌, first_by, first_of, handed_by, Exactly, numbers_given}
use Rattle.kinds.proofs.Chains.{exactly, first-through, first_then, first-without}
use Rattle.policy.specs.Passing.{passes_at, least_step}
use Rattle.policy.specs.Under.{full_under, loads_under, least_under}
use Rattle.policy.proofs.Demand.{step-nothing}
use Rattle.admission.specs.Chain.{settings_chain, record_check, admission_chain}
use Rattle.admission.proofs.Exactly.{unserved, admission-chain}
use Rattle.outcome.specs.Plan.{decided, found, outcome, Meets}
use Rattle.outcome.specs.Chain.{none_passes, step_in, plain_chain, quick_chain}

-- the last check of a finder
abbrev pub seven : Step → List Check
seven step = NoStepPasses when none_passes step ∷ []

-- an admitted call is answered by the search for a step
last-check : (step : Step) → decided (Ok tt) step ≡ handed_by 0 (step_in step) (seven step)
unfolding first_by
last-check (Some k) = refl
last-check None = refl

-- an admission that is a chain, and then the search for a step
pub decided-chain : (chain : List Check) (step : Step) → decided (first_of chain) step ≡ handed_by 0 (step_in step) (chain ++ seven step)
decided-chain chain step =
    first-through (λ v. decided v step) Err (Ok tt) chain
    ∙ (ap (λ (last : Handed ℕ). first_by (refused 0) last chain) (last-check step)
    ∙ first_then (refused 0) (accepted (step_in step)) chain (seven step))

-- policy 4 is never refused by 4 where it is served
served-never : (first : Bool) → both first (not true) ≡ false
served-never true = refl
served-never false = refl

module _ (s : Settings) (rows : List Task) (n room : ℕ) where
  -- a finder is its admission's chain and then 7
  found-chain : (serves : Bool) → found serves s rows n room
      ≡ handed_by 0 (step_in (least_under s rows n)) (admission_chain serves s rows n room ++ seven (least_under s rows n))
  unfolding found
  found-chain serves =
      ap (λ (v : Verdict). decided v (least_under s rows n)) (admission-chain serves s rows n room)
      ∙ decided-chain (admission_chain serves s rows n room) (least_under s rows n)

  -- the plain finder serves policy 4, so 4 may be left out
  pub plain-chain : found true s rows n room ≡ handed_by 0 (step_in (least_under s rows n)) (plain_chain s rows n room)
  plain-chain =
      let first = is_first_fit (meant s.policy) in
      let step = least_under s rows n in
      let before : List Check = settings_chain s ++ (TooManyTasks n when ltb most_tasks n ∷ []) in
      let four = PolicyNotServed when both first (not true) in
      let after : List Check = OutputTooShort n when ltb room n ∷ record_check s rows n ∷ seven step in
      found-chain true ∙ first-without (refused 0) (accepted (step_in step)) before four after (served-never first)

  -- the quick finder does not
  pub quick-chain : found false s rows n room ≡ handed_by 0 (step_in (least_under s rows n)) (quick_chain s rows n room)
  quick-chain =
      let step = least_under s rows n in
      let chain : Bool → List Check =
      λ four.
      settings_chain s
      ++ (TooManyTasks n when ltb most_tasks n
      ∷ PolicyNotServed when four
      ∷ OutputTooShort n when ltb room n
      ∷ record_check s rows n
      ∷ seven step) in
      found-chain false ∙ ap (λ (four : Bool). handed_by 0 (step_in step) (chain four)) (unserved (is_first_fit (meant s.policy)))

  -- 1, 15, 2, 3, 5, 6 and 7 of the plain finder are given exactly when their sentences hold, the earlier first
  pub plain-exactly : Exactly (plain_chain s rows n room) 0 (step_in (least_under s rows n)) (found true s rows n room)
  plain-exactly = exactly (plain_chain s rows n room) 0 (step_in (least_under s rows n)) (found true s rows n room) plain-chain

  -- its numbers, in their order
  pub plain-numbers : numbers_given (plain_chain s rows n room) ≡ 1 ∷ 15 ∷ 2 ∷ 3 ∷ 5 ∷ 6 ∷ 7 ∷ []
  plain-numbers = refl

  -- and 1, 15, 2, 3, 4, 5, 6 and 7 of the quick one
  pub quick-exactly : Exactly (quick_chain s rows n room) 0 (step_in (least_under s rows n)) (found false s rows n room)
  quick-exactly = exactly (quick_chain s rows n room) 0 (step_in (least_under s rows n)) (found false s rows n room) quick-chain

  -- its numbers, in their order
  pub quick-numbers : numbers_given (quick_chain s rows n room) ≡ 1 ∷ 15 ∷ 2 ∷ 3 ∷ 4 ∷ 5 ∷ 6 ∷ 7 ∷ []
  quick-numbers = refl

-- the same of every answer that meets a finder's promise
module _ (s : Settings) (rows : List Task) (n : ℕ) (old_periods old_processors periods processors : List ℕ) (answer : Answer) where
  -- the plain finder's
  pub plain-answers : Meets (outcome true s rows n old_periods old_processors) answer periods processors
      → Exactly (plain_chain s rows n (min (length old_periods) (length old_processors))) 0 (step_in (least_under s rows n)) (handed answer)
  unfolding outcome
  plain-answers x =
      let room = min (length old_periods) (length old_processors) in
      exactly (plain_chain s rows n room) 0 (step_in (least_under s rows n)) (handed answer) (x.answers ∙ plain-chain s rows n room)

  -- the quick finder's
  pub quick-answers : Meets (outcome false s rows n old_periods old_processors) answer periods processors
      → Exactly (quick_chain s rows n (min (length old_periods) (length old_processors))) 0 (step_in (least_under s rows n)) (handed answer)
  unfolding outcome
  quick-answers x =
      let room = min (length old_periods) (length old_processors) in
      exactly (quick_chain s rows n room) 0 (step_in (least_under s rows n)) (handed answer) (x.answers ∙ quick-chain s rows n room)

-- there is no least passing step
pub passes_none : (step : Step) → none_passes step ≡ true → step ≡ None
passes_none (Some k) e = true-false e refl
passes_none None e = refl

-- the sentence of 7 in the document's words, both ways
module _ (s : Settings) (rows : List Task) (n : ℕ) where
  -- where it holds no step from 0 to K passes
  pub none_passes_lem : none_passes (least_under s rows n) ≡ true
      → (k : ℕ) → k ≤ full_under s rows n → passes_at (meant s.policy) s.m (loads_under s rows n) n k ≡ false
  none_passes_lem e = step-nothing (meant s.policy) s.m (loads_under s rows n) n (full_under s rows n) (passes_none (least_under s rows n) e)

  -- and where none passes it holds
  pub passes-nowhere : ((k : ℕ) → k ≤ full_under s rows n → passes_at (meant s.policy) s.m (loads_under s rows n) n k ≡ false)
      → none_passes (least_under s rows n) ≡ true
  unfolding least_step
  passes-nowhere h =
      let test = passes_at (meant s.policy) s.m (loads_under s rows n) n in
      let K = full_under s rows n in
      ap none_passes (sym (least-none test K (K + 1) (λ j l. h j (omega arith)) (omega arith)))
