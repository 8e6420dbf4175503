-- An accepted call in the words of demand 2: the least passing step, each task's shortest period on a notch and its processor, and nothing past them;
-- and a call refused by 7: no step from 0 to K passes. For the finder that serves policy 4 and the one that does not.
-- Assumes nothing.
use Rattle.ground.proofs.Kit.{ℕ, ◌+◌, ◌≤◌, ◌<◌, min, Bool, true, false, List, ◌≡◌, sym, ◌∙◌, arith, length, leb-true, leb-false, Ok}
use Rattle.ground.proofs.Buffer.{list_at, list-past}
use Rattle.ground.proofs.Least.{least-none}
use Rattle.kinds.specs.declared.Task.{Task}
use Rattle.kinds.specs.declared.Policy.{Policy}
use Rattle.kinds.specs.declared.Settings.{Settings}
use Rattle.kinds.specs.Policy.{meant}
use Rattle.kinds.specs.Task.{at}
use Rattle.share.specs.Share.{period_at}
use Rattle.share.specs.Table.{periods_at}
use Rattle.share.proofs.Tasks.{shortest-on}
use Rattle.share.proofs.Tables.{all-good, all-on}
use Rattle.fit.specs.Fit.{place_at, fits}
use Rattle.fit.proofs.Placing.{lowest, fits-placed}
use Rattle.policy.specs.Passing.{passes_at, least_step}
use Rattle.policy.specs.Under.{rows_under, full_under, loads_under}
use Rattle.policy.proofs.Demand.{step-at, step-nothing}
use Rattle.policy.proofs.Tests.{first-fit-passes}
use Rattle.admission.specs.Admission.{admission}
use Rattle.outcome.specs.Plan.{processor_at, processors_at, found, outcome, Meets}
use Rattle.outcome.specs.Granted.{Lowest, Assigned, Granted}
use Rattle.outcome.proofs.Found.{accepting, refused-seven}

lowest-place : (m : ℕ) (load : ℕ → ℕ) (i : ℕ) → place_at m load i < m → Lowest m load i (place_at m load i + 1)
lowest-place m load i placed =
    let first = lowest m load i in
    record {
      from_one = omega arith;
      to-m = omega arith;
      room = λ j e. let q : j ≡ place_at m load i = omega arith in rw q (leb-true _ _ (first.there placed));
      none-lower = λ j l. leb-false _ _ (first.before j (omega arith));
    }

assigned : (p : Policy) (m : ℕ) (load : ℕ → ℕ → ℕ) (n k i : ℕ) → passes_at p m load n k ≡ true → i < n
    → Assigned p m (load k) i (processor_at p m load k i)
assigned p m load n k i passing l =
    record {
      placed = λ first.
          let all : fits m (load k) n ≡ true = sym (first-fit-passes p m (load k) n first) ∙ passing in
          rw first (lowest-place m (load k) i (fits-placed m (load k) n all i l));
      any = λ other. rw other;
    }

pub accepted-granted : (serves : Bool) (s : Settings) (rows : List Task) (n k : ℕ) (old_periods old_processors periods processors : List ℕ)
    → Meets (outcome serves s rows n old_periods old_processors) (Ok k) periods processors
    → Granted s rows n k old_periods old_processors periods processors
unfolding outcome periods_at processors_at
accepted-granted serves s rows n k old_periods old_processors periods processors x =
    let room = min (length old_periods) (length old_processors) in
    let p = meant s.policy in
    let paid = rows_under s rows n in
    let g = accepting serves s rows n room k x.answers in
    let good = all-good s.swap s.notch rows n g.ready.none-bad in
    let on = all-on s.swap s.notch rows n g.ready.none-bad g.ready.notched in
    let load = loads_under s rows n in
    let step = step-at p s.m load n _ k g.step in
    let ps = rw (← x.answers) at x.grants in
    let qs = rw (← x.answers) at x.places in
    record {
      good = good;
      step = step;
      each-period = λ i l. rw (ps, list_at 0 (λ j. period_at s.notch (at paid j) k) n i _ l) (shortest-on (at paid i) (good i l) s.notch (on i l) k);
      each-processor = λ i l. rw (qs, list_at 0 (processor_at p s.m load k) n i _ l) (assigned p s.m load n k i step.passes l);
      periods-past = λ i l. rw ps (list-past (λ j. period_at s.notch (at paid j) k) n i old_periods l);
      processors-past = λ i l. rw qs (list-past (processor_at p s.m load k) n i old_processors l);
    }

-- refusal 7 is given exactly when the call is admitted and no step from 0 to K passes
module _ (serves : Bool) (s : Settings) (rows : List Task) (n room : ℕ) where
  pub seven-none : (found serves s rows n room).number ≡ 7
      → (admission serves s rows n room ≡ (Ok tt))
      × ((k : ℕ) → k ≤ full_under s rows n → passes_at (meant s.policy) s.m (loads_under s rows n) n k ≡ false)
  seven-none e = let x = refused-seven serves s rows n room e in (x.0, step-nothing (meant s.policy) s.m (loads_under s rows n) n _ x.1)

  pub none-seven : admission serves s rows n room ≡ (Ok tt)
      → ((k : ℕ) → k ≤ full_under s rows n → passes_at (meant s.policy) s.m (loads_under s rows n) n k ≡ false)
      → (found serves s rows n room).number ≡ 7
  unfolding found least_step
  none-seven a h =
      let test = passes_at (meant s.policy) s.m (loads_under s rows n) n in
      let K = full_under s rows n in
      let e = least-none test K (K + 1) (λ j l. h j (omega arith)) (omega arith) in
      rw (a, ← e)
