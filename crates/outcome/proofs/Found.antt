-- What an accepted answer has passed, so that its plan may be written.
-- Assumes nothing.
use Rattle.ground.specs.Least.{Step}
use Rattle.ground.proofs.Kit.{ℕ, min, Bool, true, List, ◌≡◌, refl, sym, ◌∙◌, ap, subst, arith, length, Ok, Err, Some, None}
use Rattle.ground.specs.Folds.{list_to}
use Rattle.ground.proofs.Cases.{true-false}
use Rattle.kinds.specs.declared.Task.{Task}
use Rattle.kinds.specs.declared.Settings.{Settings}
use Rattle.kinds.specs.declared.Refusal.{Refusal}
use Rattle.kinds.specs.declared.Refusal.TheVariants.{NoStepPasses}
use Rattle.kinds.specs.Answer.{Handed, accepted, handed, is_accepted, step_of, after, Answer, Verdict}
use Rattle.kinds.specs.Policy.{meant}
use Rattle.kinds.proofs.Answers.{not-refused}
use Rattle.springs.specs.Spring.{periods_on, loads_on}
use Rattle.springs.specs.declared.Springs.{Springs}
use Rattle.springs.specs.Springs.{spring_in}
use Rattle.share.proofs.Tables.{all-good, all-on}
use Rattle.springs.proofs.Columns.{loads-are, periods-are, sprung-chargeable}
use Rattle.policy.specs.Passing.{passes}
use Rattle.policy.specs.Under.{rows_under, loads_under, least_under}
use Rattle.policy.proofs.Demand.{step-at}
use Rattle.policy.proofs.Tests.{passes_same}
use Rattle.admission.specs.Admission.{gate_of, admission}
use Rattle.admission.proofs.Opened.{refused-gate}
use Rattle.admission.proofs.Chain.{Ready, admitted, not-admitted, Unlike, admission-unlike}
use Rattle.outcome.specs.Plan.{processor_on, processors_at, periods_under, processors_under, decided, periods_after, processors_after, found, outcome, Meets}
use Rattle.outcome.specs.Handover.{FoundSprung, Leaves, Grantable, MayGrant}
use Rattle.outcome.proofs.Processors.{processors-same}
use Rattle.outcome.proofs.Writing.{written-kept, written_same}

-- an acceptance was admitted, and its step is the least that passes
pub decided-accepted : (a : Verdict) (step : Step) (k : ℕ) → accepted k ≡ decided a step → (a ≡ (Ok tt)) × (step ≡ Some k)
decided-accepted (Err r) step k e = not-refused k 0 r e
decided-accepted (Ok _) (Some j) k e = (refl, ap Some (sym (ap (λ (h : Handed ℕ). h.value) e)))
decided-accepted (Ok _) None k e = not-refused k 0 NoStepPasses e

-- the step of an acceptance is the one that was found
pub answered-at : (answer : Answer) (a : Verdict) (step : Step) → handed answer ≡ decided a step → is_accepted answer ≡ true
    → step ≡ Some (step_of answer)
answered-at (Ok k) a step e t = (decided-accepted a step k e).1
answered-at (Err r) a step e t = true-false t refl

-- a refused admission is no acceptance
pub refused-sprung : {A : Type 0} (answer : Answer) (a : Verdict) (step : Step) (r : Refusal) → handed answer ≡ decided a step
    → a ≡ Err r → is_accepted answer ≡ true → A
refused-sprung (Ok k) a step r e q t = not-admitted a q (decided-accepted a step k e).0
refused-sprung (Err x) a step r e q t = true-false t refl

-- no admission refuses by 7, so 7 comes from the search for a step
pub decided-seven : (a : Verdict) (step : Step) → Unlike 7 a → (decided a step).number ≡ 7
    → (a ≡ (Ok tt)) × (step ≡ None)
decided-seven (Err r) step h e = absurd (h e)
decided-seven (Ok _) (Some j) h e = absurd (omega arith)
decided-seven (Ok _) None h e = (refl, refl)

pub refused-seven : (serves : Bool) (s : Settings) (rows : List Task) (n room : ℕ) → (found serves s rows n room).number ≡ 7
    → (admission serves s rows n room ≡ (Ok tt)) × (least_under s rows n ≡ None)
unfolding found
refused-seven serves s rows n room e = decided-seven _ _ (admission-unlike serves s rows n room) e

pub record Accepting (serves : Bool) (s : Settings) (rows : List Task) (n room k : ℕ) : Type 0 where
  pub ready : Ready serves s rows n room
  pub step : least_under s rows n ≡ Some k

pub accepting : (serves : Bool) (s : Settings) (rows : List Task) (n room k : ℕ) → accepted k ≡ found serves s rows n room → Accepting serves s rows n room k
unfolding found
accepting serves s rows n room k e =
    let d = decided-accepted _ _ k e in
    record { ready = admitted serves s rows n room d.0; step = d.1 }

-- what the writing of a plan relies on, for outputs of which the shorter has the room
pub may-grant : (serves : Bool) (answer : Answer) (s : Settings) (rows : List Task) (n a b : ℕ) (springs : Springs)
    → FoundSprung serves s rows n (min a b) answer springs → MayGrant answer s springs a b
may-grant serves (Err r) s rows n a b springs f t = true-false t refl
may-grant serves (Ok k) s rows n a b springs f t =
    let g = accepting serves s rows n (min a b) k f.answers in
    let p = g.ready.passed in
    let paid = rows_under s rows n in
    let w = f.sprung refl in
    let good = all-good s.swap s.notch rows n g.ready.none-bad in
    let on = all-on s.swap s.notch rows n g.ready.none-bad g.ready.notched in
    let passing = (step-at (meant s.policy) s.m (loads_under s rows n) n _ k g.step).passes in
    let same = passes_same (meant s.policy) s.m (loads_on s (spring_in springs) k) (loads_under s rows n k) n (loads-are paid n springs w s k) in
    record {
      periods-roomy = omega (arith, w.count, p.roomy);
      processors-roomy = omega (arith, w.count, p.roomy);
      placeable =
          record {
            chargeable = sprung-chargeable paid n springs w good s.notch on;
            m-most = p.m-most;
            passing = ap (passes (meant s.policy) s.m (loads_on s (spring_in springs) k)) w.count ∙ (same ∙ passing);
          };
    }

-- and what that comes to of an acceptance
pub may-granted : (answer : Answer) (k : ℕ) (s : Settings) (springs : Springs) (a b : ℕ) → answer ≡ Ok k → MayGrant answer s springs a b
    → Grantable s springs k a b
may-granted answer k s springs a b e may = (rw e at may) refl

-- as a finder works it out: without a step where the admission refuses, else with the least one
module _ (serves : Bool) (s : Settings) (rows : List Task) (n room : ℕ) (a : Verdict) (is : a ≡ admission serves s rows n room) where
  pub refused-found : (r : Refusal) (step : Step) → a ≡ Err r → decided a step ≡ found serves s rows n room
  unfolding found
  refused-found r step e = rw (← is, e)

  pub admitted-found : (step : Step) → step ≡ least_under s rows n → decided a step ≡ found serves s rows n room
  unfolding found
  admitted-found step e = rw (is, e)

-- a call that is refused at the gate is found refused, and leaves the outputs as they are
module _ (serves : Bool) (s : Settings) (rows : List Task) (n room : ℕ) (answer : Answer) (r : Refusal) (g : gate_of serves s n room ≡ Err r)
    (e : handed answer ≡ decided (Err r) None) where
  pub gate-found : handed answer ≡ found serves s rows n room
  gate-found = e ∙ refused-found serves s rows n room (Err r) (refused-gate serves s rows n room r g) r None refl

  pub gate-refused : is_accepted answer ≡ true → ⊥
  gate-refused t = refused-sprung answer (Err r) None r e refl t

pub meets-refused : (serves : Bool) (s : Settings) (rows : List Task) (n : ℕ) (periods processors : List ℕ) (answer : Answer)
    → handed answer ≡ found serves s rows n (min (length periods) (length processors)) → (is_accepted answer ≡ true → ⊥)
    → Meets (outcome serves s rows n periods processors) answer periods processors
unfolding outcome
meets-refused serves s rows n periods processors (Ok k) e no-plan = absurd (no-plan refl)
meets-refused serves s rows n periods processors (Err r) e no-plan =
    record {
      answers = e;
      grants = rw (← e) (sym (written-kept (Err r) (periods_under s rows n 0) n periods refl));
      places = rw (← e) (sym (written-kept (Err r) (processors_under s rows n 0) n processors refl));
    }

-- an answer that is found, with what it leaves in the outputs, meets the outcome
module _ (serves : Bool) (k : ℕ) (s : Settings) (rows : List Task) (n : ℕ) (springs : Springs) (periods processors : List ℕ)
    (f : FoundSprung serves s rows n (min (length periods) (length processors)) (Ok k) springs) where
  periods-left : after (accepted k) (list_to (periods_on s.notch (spring_in springs) k) n) n periods ≡ periods_after (accepted k) s rows n periods
  periods-left = written_same (Ok k) _ _ n periods (λ t. periods-are (rows_under s rows n) n springs (f.sprung t) s.notch k)

  processors-left : after (accepted k) (list_to (processor_on (meant s.policy) s.m (loads_on s (spring_in springs) k)) n) n processors
      ≡ processors_after (accepted k) s rows n processors
  unfolding processors_at
  processors-left =
      written_same (Ok k) _ _ n processors
      (λ t. processors-same (meant s.policy) s.m _ (loads_under s rows n k) n (loads-are (rows_under s rows n) n springs (f.sprung t) s k))

  pub meets : (new-periods new-processors : List ℕ)
      → Leaves (accepted k) s (spring_in springs) springs.n periods processors new-periods new-processors
      → Meets (outcome serves s rows n periods processors) (Ok k) new-periods new-processors
  unfolding outcome
  meets new-periods new-processors left =
      let l = subst (λ (x : ℕ). Leaves (accepted k) s (spring_in springs) x periods processors new-periods new-processors) (f.sprung refl).count left in
      let e = f.answers in
      let grants = l.periods-are ∙ periods-left in
      let places = l.processors-are ∙ processors-left in
      record {
        answers = e;
        grants = subst (λ (h : Handed ℕ). new-periods ≡ periods_after h s rows n periods) e grants;
        places = subst (λ (h : Handed ℕ). new-processors ≡ processors_after h s rows n processors) e places;
      }
