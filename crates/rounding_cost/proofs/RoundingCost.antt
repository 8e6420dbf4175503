-- Ask 13, said of a call's answer under policy 1, under both editions, with any swap cost and any notch: an accepted plan's exact sum of cost over period is at
-- most m, and where the exact sum of cost over Tmin spares one part for each task the call is accepted at step 0; a part less is enough.
-- Assumes nothing.
use Rattle.ground.proofs.Kit.{ℕ, ◌+◌, ◌-◌, ◌*◌, ◌≤◌, ◌<◌, min, Bool, true, List, ◌≡◌, sym, ◌∙◌, ap, subst, le_trans, mul-le-mul_right, arith, length, get_or, Ok, Some}
use Rattle.ground.proofs.Kit.{le-leb, leb-true}
use Rattle.ground.specs.Folds.{sum_to}
use Rattle.ground.proofs.Buffer.{list_at}
use Rattle.ground.proofs.Least.{least-here}
use Rattle.kinds.specs.declared.Task.{Task}
use Rattle.kinds.specs.declared.Settings.{Settings}
use Rattle.kinds.specs.declared.Policy.{Policy}
use Rattle.kinds.specs.declared.Policy.TheVariants.{Pooled}
use Rattle.kinds.specs.Answer.{accepted, handed, Answer}
use Rattle.kinds.specs.Limits.{scale}
use Rattle.kinds.specs.Policy.{meant}
use Rattle.kinds.specs.Task.{at}
use Rattle.share.specs.Share.{period_at}
use Rattle.share.specs.Table.{periods_at}
use Rattle.share.proofs.Tasks.{shortest-on}
use Rattle.share.proofs.Tables.{priced-at, all-good, all-on}
use Rattle.policy.specs.Passing.{passes, passes_at, least_step}
use Rattle.policy.specs.Under.{rows_under, full_under, loads_under}
use Rattle.policy.proofs.Demand.{step-at}
use Rattle.policy.proofs.Tests.{pooled-passes}
use Rattle.admission.specs.Admission.{admission}
use Rattle.admission.proofs.Chain.{Ready, admitted}
use Rattle.outcome.specs.Plan.{found, outcome, Meets}
use Rattle.outcome.proofs.Found.{accepting, admitted-found}
use Rattle.rounding_cost.specs.Exact.{Fraction, out_of}
use Rattle.rounding_cost.specs.RoundingCost.{cost_under, cost_over_period, cost_over_tmin, within_processors, spares_parts, spares_fewer_parts}
use Rattle.rounding_cost.proofs.Sums.{bottom-some, sum-covers, sum-within}
use Rattle.rounding_cost.proofs.Loads.{load-covers, load-near}

-- policy 1 passes exactly where the loads add up to at most m × S
pooled-sum : (p : Policy) (m : ℕ) (load : ℕ → ℕ) (n : ℕ) → p ≡ Pooled → passes p m load n ≡ true → sum_to load n ≤ m * scale
pooled-sum p m load n e passing = leb-true _ _ (sym (pooled-passes m load n) ∙ (ap (λ (q : Policy). passes q m load n) (sym e) ∙ passing))

sum-pooled : (p : Policy) (m : ℕ) (load : ℕ → ℕ) (n : ℕ) → p ≡ Pooled → sum_to load n ≤ m * scale → passes p m load n ≡ true
sum-pooled p m load n e h = ap (λ (q : Policy). passes q m load n) e ∙ (pooled-passes m load n ∙ le-leb _ _ h)

module _ (serves : Bool) (s : Settings) (rows : List Task) (n : ℕ) (pooled : meant s.policy ≡ Pooled) where
  -- what a call that was refused by none of 1 to 6 knows of its task number i
  module _ (room : ℕ) (ready : Ready serves s rows n room) (i : ℕ) (l : i < n) where
    covers : (k : ℕ) → scale * cost_under s rows i ≤ loads_under s rows n k i * period_at s.notch (at (rows_under s rows n) i) k
    covers k =
        let good = all-good s.swap s.notch rows n ready.none-bad i l in
        let on = all-on s.swap s.notch rows n ready.none-bad ready.notched i l in
        omega (arith, load-covers s (at (rows_under s rows n) i) good on k, ap (λ (t : Task). t.c) (priced-at s.swap rows n i l))

    near : loads_under s rows n 0 i * (at rows i).tmin < scale * cost_under s rows i + (at rows i).tmin
    near =
        let good = all-good s.swap s.notch rows n ready.none-bad i l in
        let on = all-on s.swap s.notch rows n ready.none-bad ready.notched i l in
        let close = load-near s (at (rows_under s rows n) i) good on in
        subst (λ (t : Task). loads_under s rows n 0 i * t.tmin < scale * t.c + t.tmin) (priced-at s.swap rows n i l) close

    tmin-some : 0 < (at rows i).tmin
    tmin-some =
        let good = all-good s.swap s.notch rows n ready.none-bad i l in
        omega (arith, good.c-some, good.c-tmin, ap (λ (t : Task). t.tmin) (priced-at s.swap rows n i l))

    period-some : (k : ℕ) → 0 < period_at s.notch (at (rows_under s rows n) i) k
    period-some k =
        let good = all-good s.swap s.notch rows n ready.none-bad i l in
        let on = all-on s.swap s.notch rows n ready.none-bad ready.notched i l in
        omega (arith, good.c-some, good.c-tmin, (shortest-on (at (rows_under s rows n) i) good s.notch on k).low)

  -- "an accepted plan's exact sum of cost over period is at most m", and its bottom is not 0
  pub plan-within : (k : ℕ) (old_periods old_processors periods processors : List ℕ)
      → Meets (outcome serves s rows n old_periods old_processors) (Ok k) periods processors
      → (within_processors s rows n periods ≡ true) × (0 < (cost_over_period s rows n periods).bottom)
  unfolding outcome periods_at
  plan-within k old_periods old_processors periods processors x =
      let room = min (length old_periods) (length old_processors) in
      let g = accepting serves s rows n room k x.answers in
      let paid = rows_under s rows n in
      let load = loads_under s rows n k in
      let grants = rw (← x.answers) at x.grants in
      let step = step-at (meant s.policy) s.m (loads_under s rows n) n (full_under s rows n) k g.step in
      let sum = pooled-sum (meant s.policy) s.m load n pooled step.passes in
      let all = sum-covers scale (λ i. out_of (cost_under s rows i) (get_or periods i 0)) load n
      (λ i l. rw (grants, list_at 0 (λ j. period_at s.notch (at paid j) k) n i _ l) (covers room g.ready i l k)) in
      let some = bottom-some (λ i. out_of (cost_under s rows i) (get_or periods i 0)) n
      (λ i l. rw (grants, list_at 0 (λ j. period_at s.notch (at paid j) k) n i _ l) (period-some room g.ready i l k)) in
      let exact = cost_over_period s rows n periods in
      let most : 1 * exact.top ≤ s.m * exact.bottom = omega (arith, all, mul-le-mul_right exact.bottom sum) in
      (le-leb _ _ most, some)

  -- of a call that is refused by none of 1 to 6: where m × S − (n − 1) is enough, step 0 is accepted
  pub fewer-parts-accepted : (room : ℕ) → admission serves s rows n room ≡ (Ok tt) → spares_fewer_parts s rows n ≡ true
      → found serves s rows n room ≡ accepted 0
  unfolding least_step
  fewer-parts-accepted room a spares =
      let ready = admitted serves s rows n room a in
      let load = loads_under s rows n 0 in
      let tasks : ℕ → Fraction = λ i. out_of (cost_under s rows i) (at rows i).tmin in
      let room-for-all : n ≤ s.m * scale = omega (arith, ready.passed.m-some, ready.passed.few) in
      let sum = sum-within scale tasks load n (s.m * scale) room-for-all (tmin-some room ready) (near room ready) (leb-true _ _ spares) in
      let passing = sum-pooled (meant s.policy) s.m load n pooled sum in
      sym (admitted-found serves s rows n room (Ok tt) (sym a) (Some 0)
      (least-here (passes_at (meant s.policy) s.m (loads_under s rows n) n) (full_under s rows n) 0 (λ j h. absurd (omega arith)) (omega arith) passing))

  -- what spares n parts spares n − 1
  spares-fewer : spares_parts s rows n ≡ true → spares_fewer_parts s rows n ≡ true
  spares-fewer spares =
      let wanted = cost_over_tmin s rows n in
      let less : s.m * scale - n ≤ s.m * scale - (n - 1) = omega arith in
      le-leb _ _ (le_trans (leb-true _ _ spares) (mul-le-mul_right wanted.bottom less))

  -- "if the exact sum of cost over Tmin, times S, is at most m × S − n for n tasks, step 0 is accepted"
  pub zero-accepted : (room : ℕ) → admission serves s rows n room ≡ (Ok tt) → spares_parts s rows n ≡ true → found serves s rows n room ≡ accepted 0
  zero-accepted room a spares = fewer-parts-accepted room a (spares-fewer spares)

  -- both of a finder's answer
  module _ (answer : Answer) (old_periods old_processors periods processors : List ℕ)
      (meets : Meets (outcome serves s rows n old_periods old_processors) answer periods processors)
      (admits : admission serves s rows n (min (length old_periods) (length old_processors)) ≡ (Ok tt)) where
    pub zero-answered : spares_parts s rows n ≡ true → handed answer ≡ accepted 0
    unfolding outcome
    zero-answered spares = meets.answers ∙ zero-accepted _ admits spares

    pub fewer-parts-answered : spares_fewer_parts s rows n ≡ true → handed answer ≡ accepted 0
    unfolding outcome
    fewer-parts-answered spares = meets.answers ∙ fewer-parts-accepted _ admits spares
