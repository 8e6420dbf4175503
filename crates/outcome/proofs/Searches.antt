-- What the two finders share: what the search of an admitted call relies on, what its answer then is, and what a refused call leaves.
-- Assumes nothing.
use Rattle.std.specs.Option.{ok_or}
use Rattle.ground.specs.Least.{Step}
use Rattle.ground.proofs.Kit.{ℕ, min, Bool, List, ◌≡◌, refl, sym, ◌∙◌, ap, length, Ok, Err, Some, None}
use Rattle.ground.proofs.Cases.{true-false}
use Rattle.kinds.specs.declared.Task.{Task}
use Rattle.kinds.specs.declared.Settings.{Settings}
use Rattle.kinds.specs.declared.Refusal.{Refusal}
use Rattle.kinds.specs.declared.Refusal.TheVariants.{NoStepPasses}
use Rattle.kinds.specs.Answer.{handed, Answer, Verdict}
use Rattle.springs.specs.declared.Springs.{Springs}
use Rattle.springs.specs.Handover.{Beside}
use Rattle.springs.proofs.Columns.{sprung-beside}
use Rattle.policy.specs.Under.{least_under}
use Rattle.admission.specs.Handover.{AdmittedSprung}
use Rattle.admission.proofs.Chain.{passed-served}
use Rattle.admission.proofs.Opened.{opened}
use Rattle.outcome.specs.Plan.{decided, found, outcome, Meets}
use Rattle.outcome.specs.Handover.{Searchable, FoundSprung}
use Rattle.outcome.proofs.Found.{refused-found, admitted-found, meets-refused}

-- an admitted call is answered by the step, where there is one
answered : (step : Step) → handed (ok_or step NoStepPasses) ≡ decided (Ok tt) step
answered (Some k) = refl
answered None = refl

module _ (serves : Bool) (s : Settings) (rows : List Task) (n room : ℕ) where
  -- an admission that refuses is what is found
  pub refused-sprung : (r : Refusal) (springs : Springs) → AdmittedSprung serves s rows n room (Err r) springs
      → FoundSprung serves s rows n room (Err r) springs
  refused-sprung r springs x =
      record { answers = refused-found serves s rows n room (Err r) x.is r None refl; sprung = λ t. true-false t refl; notch = x.notch }

  -- and a call that is found refused leaves the outputs, of which the shorter has the room, as they are
  pub refused-meets : (r : Refusal) (springs : Springs) → FoundSprung serves s rows n room (Err r) springs
      → (periods processors : List ℕ) → room ≡ min (length periods) (length processors)
      → Meets (outcome serves s rows n periods processors) (Err r) periods processors
  refused-meets r springs f periods processors shorter =
      meets-refused serves s rows n periods processors (Err r) (f.answers ∙ ap (found serves s rows n) shorter) (λ t. true-false t refl)

  module _ (a : Verdict) (springs : Springs) (x : AdmittedSprung serves s rows n room a springs) (admits : a ≡ (Ok tt)) where
    -- an admitted call may be searched
    pub may-search : Searchable s springs
    may-search =
        let admitted = opened serves s rows n room a springs x admits in
        let passed = admitted.ready.passed in
        record { chargeable = admitted.chargeable; notch = admitted.notch; m-some = passed.m-some; m-most = passed.m-most; served = passed-served serves _ _ _ _ passed }

    -- with the least step its answer is what demand 2 finds, and the springs are still those
    pub found-sprung : (new : Springs) → Beside springs new → (step : Step) → step ≡ least_under s rows n → (answer : Answer) → answer ≡ ok_or step NoStepPasses
        → FoundSprung serves s rows n room answer new
    found-sprung new beside step least answer e =
        let admitted = ap (λ (v : Verdict). decided v step) (sym admits) ∙ admitted-found serves s rows n room a x.is step least in
        record {
          answers = ap handed e ∙ (answered step ∙ admitted);
          sprung = λ _. sprung-beside _ n springs new beside (x.sprung admits);
          notch = beside.notch ∙ x.notch;
        }
