-- The periods of an accepted plan start a clock: no start refuses them.
-- Assumes nothing.
use Rattle.ground.proofs.Kit.{ℕ, ◌≤◌, ◌<◌, min, Bool, true, List, ◌++◌, ◌≡◌, sym, ◌∙◌, ap, arith, length, take, drop, Result, Ok, Err}
use lib.Seq.{take_at}
use Rattle.ground.proofs.Buffer.{list-long, list-in}
use Rattle.kinds.specs.declared.Task.{Task}
use Rattle.kinds.specs.declared.Settings.{Settings}
use Rattle.kinds.specs.Answer.{Handed, accepted}
use Rattle.kinds.specs.Task.{at}
use Rattle.kinds.specs.declared.Refusal.{Refusal}
use Rattle.kinds.proofs.Answers.{not-refused}
use Rattle.share.specs.Share.{period_at}
use Rattle.share.specs.Table.{periods_at}
use Rattle.share.proofs.Tables.{all-good, all-on}
use Rattle.share.proofs.Tasks.{shortest-on}
use Rattle.policy.specs.Under.{rows_under}
use Rattle.outcome.specs.Plan.{periods_under, found, Outcome, outcome, Meets}
use Rattle.outcome.proofs.Found.{accepting}
use Rattle.outcome.proofs.Outcomes.{no-second-answer}
use Rattle.clock.specs.declared.Clock.{Clock}
use Rattle.clock.specs.Start.{every, no_clock, clock_from, started, handed_start}
use Rattle.clock.proofs.Starts.{Whole, whole-started}
use Rattle.planned_clock.specs.declared.Planned.{Planned}
use Rattle.planned_clock.specs.ClockPlan.{clock_of, plan_in, clock_in, PlanIs}

periods-long : (q : ℕ) (rows : List Task) (n k : ℕ) → length (periods_at q rows n k) ≡ n
unfolding periods_at
periods-long q rows n k = list-long (λ i. period_at q (at rows i) k) n

period-of : (q : ℕ) (rows : List Task) (n k i : ℕ) → i < n → every (periods_at q rows n k) i ≡ period_at q (at rows i) k
unfolding periods_at
period-of q rows n k i l =
    list-in 0 (λ j. period_at q (at rows j) k) n i l

module _ (serves : Bool) (s : Settings) (rows : List Task) (n room k : ℕ) (e : accepted k ≡ found serves s rows n room) where
  -- an accepted plan has at most 32 periods, and each is 1 to 1,000,000,000
  pub accepted-whole : Whole (periods_under s rows n k)
  accepted-whole =
      let r = (accepting serves s rows n room k e).ready in
      let paid = rows_under s rows n in
      let q = s.notch in
      let long = periods-long q paid n k in
      record {
        few = omega (arith, long, r.passed.few);
        fair = λ i l. let l' : i < n = omega (arith, long) in
            let g = all-good s.swap q rows n r.none-bad i l' in
            let p = shortest-on (at paid i) g q (all-on s.swap q rows n r.none-bad r.notched i l') k in
            rw (period-of q paid n k i l') (record { some = omega (arith, p.low, g.c-some, g.c-tmin); most = omega (arith, p.high, g.tmax-most) });
      }

  -- so a start with them is accepted, at any tick
  pub accepted-starts : (tick : ℕ) → started (periods_under s rows n k) tick ≡ accepted (clock_from (periods_under s rows n k) tick)
  accepted-starts tick = whole-started (periods_under s rows n k) tick accepted-whole

-- what the function hands over: the finder's answer, with the outputs as it left them
module _ (s : Settings) (rows : List Task) (n : ℕ) (old old' : List ℕ) where
  -- an accepted answer was found
  as-found : (k : ℕ) (new new' : List ℕ) → Meets (outcome true s rows n old old') (Ok k) new new'
      → accepted k ≡ found true s rows n (min (length old) (length old'))
  unfolding outcome
  as-found k new new' m = m.answers

  pub roomy : (k : ℕ) (new new' : List ℕ) → Meets (outcome true s rows n old old') (Ok k) new new' → length new ≡ length old → n ≤ length new
  roomy k new new' m l =
      omega (arith, l, (accepting true s rows n (min (length old) (length old')) k (as-found k new new' m)).ready.passed.roomy)

  -- the periods of the plan stand in front
  in-front : (k : ℕ) (new new' : List ℕ) → Meets (outcome true s rows n old old') (Ok k) new new' → take n new ≡ periods_under s rows n k
  unfolding outcome
  in-front k new new' m =
      let e : new ≡ periods_under s rows n k ++ drop n old = rw (← m.answers) at m.grants in
      rw e (take_at (periods_under s rows n k) (drop n old) n (periods-long s.notch (rows_under s rows n) n k))

  -- so that the start of the plan's periods is accepted
  begun : (tick k : ℕ) (new new' : List ℕ) (r : Result Clock Refusal) → Meets (outcome true s rows n old old') (Ok k) new new'
      → handed_start r ≡ started (take n new) tick → handed_start r ≡ accepted (clock_from (periods_under s rows n k) tick)
  begun tick k new new' r m e =
      e ∙ (ap (λ (x : List ℕ). started x tick) (in-front k new new' m)
      ∙ accepted-starts true s rows n (min (length old) (length old')) k (as-found k new new' m) tick)

  pub planned-well : (tick k : ℕ) (c : Clock) (new new' : List ℕ) → Meets (outcome true s rows n old old') (Ok k) new new'
      → handed_start (Ok c) ≡ started (take n new) tick
      → PlanIs (outcome true s rows n old old') s rows n tick (Ok (record { step = k; clock = c })) new new'
  planned-well tick k c new new' m e = record {
    plans = m;
    starts =
        ap (λ (h : Handed Clock). h.value) (begun tick k new new' (Ok c) m e)
        ∙ ap (λ (h : Handed ℕ). clock_of h s rows n tick) m.answers;
  }

  -- no start of a plan's periods is refused
  pub never-refused : {X : Type 0} (tick k : ℕ) (r : Refusal) (new new' : List ℕ) → Meets (outcome true s rows n old old') (Ok k) new new'
      → handed_start (Err r) ≡ started (take n new) tick → X
  never-refused tick k r new new' m e = not-refused _ no_clock r (sym (begun tick k new new' (Err r) m e))

-- no second plan, nor a second clock, nor a second content of either output
same : (r q : Result Planned Refusal) → plan_in r ≡ plan_in q → clock_in r ≡ clock_in q → r ≡ q
same (Ok p) (Ok w) e x = let k : p.step ≡ w.step = cc in ap Ok (λ i. record { step = k i; clock = x i })
same (Ok p) (Err q) e x = cc
same (Err r) (Ok w) e x = cc
same (Err r) (Err q) e x = let k : r ≡ q = cc in ap Err k

pub plan-one : (o : Outcome) (s : Settings) (rows : List Task) (n tick : ℕ) (r q : Result Planned Refusal) (ps qs ps' qs' : List ℕ)
    → PlanIs o s rows n tick r ps qs → PlanIs o s rows n tick q ps' qs' → (r ≡ q) × (ps ≡ ps') × (qs ≡ qs')
plan-one o s rows n tick r q ps qs ps' qs' a b =
    let m = no-second-answer o (plan_in r) (plan_in q) ps qs ps' qs' a.plans b.plans in
    (same r q m.0 (a.starts ∙ sym b.starts), m.1, m.2)
