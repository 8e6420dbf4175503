-- The call: what each of its returns hands back and leaves, what an accepted one says (`accepted-exactly`, `exactly-accepted` and
-- `accepted-adds-up`), that it looks at the first n records and entries only, and that no second answer fits.
-- Assumes nothing.
use Rattle.ground.proofs.Kit.{ℕ, ◌+◌, ◌≤◌, ◌<◌, List, ◌++◌, ◌≡◌, refl, sym, ◌∙◌, ap, subst, ◌⊎◌, arith, length, get_or, take, drop, ne_eqb, lt-ltb, le-ltb, Ok, Err}
use Rattle.ground.specs.Folds.{sum_to, list_to}
use Rattle.ground.specs.First.{first_below}
use Rattle.fit.specs.Fit.{load_in}
use Rattle.ground.proofs.First.{first_cong}
use Rattle.ground.proofs.Folds.{sum-cong}
use Rattle.ground.proofs.Buffer.{list_at, list-cong, list-taken}
use Rattle.kinds.specs.declared.Task.{Task}
use Rattle.kinds.specs.declared.Settings.{Settings}
use Rattle.kinds.specs.declared.Refusal.{Refusal}
use Rattle.kinds.specs.declared.Refusal.TheVariants.{ProcessorOutOfRange, ProcessorOverfull}
use Rattle.kinds.specs.Answer.{accepted, handed_verdict, Verdict}
use Rattle.kinds.specs.Limits.{most_tasks}
use Rattle.kinds.specs.Refusal.{number_of}
use Rattle.kinds.specs.Task.{at}
use Rattle.kinds.proofs.Answers.{verdict-one}
use Rattle.kinds.proofs.Refusals.{refusal-numbered}
use Rattle.share.proofs.Tables.{bad-same}
use Rattle.policy.specs.Under.{loads_under}
use Rattle.policy.proofs.Under.{loads-same}
use Rattle.admission.specs.Admission.{misset_numbers, gate}
use Rattle.admission.proofs.Chain.{gate-opens, then-admitted}
use Rattle.springs.specs.declared.Springs.{Springs}
use Rattle.proposal.specs.Loads.{processor_load, loads_to, is_out_of_range, first_out_of_range, is_overfull, before_overfull, Sound}
use Rattle.proposal.specs.Proposal.{place_in, gate_of, admission, placing, proposal_verdict, Outcome, outcome, Meets}
use Rattle.proposal.specs.Handover.{LoadsOf, Loadable, LoadsAre}
use Rattle.proposal.proofs.Loading.{load_same, overfull-is, front-is}
use Rattle.proposal.proofs.Adding.{loads-add-up}
use Rattle.proposal.proofs.Judging.{placing-out-of-range, placing-overfull, placing-well, placing-refused, all-in-range, placed-sound, sound-placed}
use Rattle.proposal.proofs.Admitting.{gate-passed}

-- a proposal with an entry for each task, none of them out of range, may be loaded
pub may_load : (s : Settings) (rows : List Task) (n k : ℕ) (springs : Springs) (proposal : List ℕ) → LoadsOf s rows n k springs → n ≤ length proposal
    → n ≤ first_out_of_range s.m (place_in proposal) n → Loadable springs.loads springs.n proposal
may_load s rows n k springs proposal w long h =
    record {
      light = rw w.count w.light;
      long = omega (arith, w.count);
      each =
          λ i l.
          let range = all-in-range (place_in proposal) (place_in proposal) n s.m h i (omega (arith, w.count)) in
          record { some = range.some; most = omega (arith, range.most, w.m-most) };
    }

-- and once it is, what was worked out for every processor that there can be counts for the first m
pub record Counted (s : Settings) (rows : List Task) (n k : ℕ) (proposal held : List ℕ) : Type 0 where
  pub long : s.m ≤ length held
  pub lowest : first_below (λ j. is_overfull (get_or held j 0)) s.m ≡ before_overfull (loads_under s rows n k) (place_in proposal) n s.m
  pub front : take s.m held ≡ loads_to (loads_under s rows n k) (place_in proposal) n s.m

pub counted : (s : Settings) (rows : List Task) (n k : ℕ) (springs : Springs) (proposal held : List ℕ) → LoadsOf s rows n k springs
    → LoadsAre (load_in springs.loads) (place_in proposal) springs.n held → Counted s rows n k proposal held
counted s rows n k springs proposal held w loaded =
    let are = subst (λ (x : ℕ). LoadsAre (load_in springs.loads) (place_in proposal) x held) w.count loaded in
    let long : s.m ≤ length held = omega (arith, w.m-most, are.long) in
    record {
      long = long;
      lowest = overfull-is _ _ _ _ _ held are w.are w.m-most;
      front = sym (list-taken 0 held s.m long) ∙ front-is _ _ _ _ _ held are w.are w.m-most;
    }

-- a refusal is no acceptance
apart : (r : Refusal) → number_of r ≡ 0 → ⊥
apart r z = omega (arith, refusal-numbered r)

module _ (s : Settings) (rows : List Task) (n k : ℕ) (proposal old : List ℕ) where
  abbrev load : ℕ → ℕ
  load = loads_under s rows n k

  abbrev place : ℕ → ℕ
  place = place_in proposal

  -- the two kinds of outcome
  meets-refused : (r : Refusal) → proposal_verdict s rows n k proposal (length old) ≡ Err r → Meets (outcome s rows n k proposal old) (Err r) old
  unfolding outcome
  meets-refused r e = record { answers = rw e; leaves = rw (e, ne_eqb (number_of r) 0 (apart r)) }

  pub meets-accepted : proposal_verdict s rows n k proposal (length old) ≡ (Ok tt) → (new : List ℕ)
      → new ≡ loads_to (loads_under s rows n k) (place_in proposal) n s.m ++ drop s.m old → Meets (outcome s rows n k proposal old) (Ok tt) new
  unfolding outcome
  meets-accepted e new w = record { answers = rw e; leaves = rw e w }

  -- a refusal before the proposal is looked at is the answer; where there is none, the placing is
  refused-first : (r : Refusal) → admission s rows n (length proposal) (length old) ≡ Err r → proposal_verdict s rows n k proposal (length old) ≡ Err r
  unfolding proposal_verdict
  refused-first r e = rw e

  pub refused-meets : (a : Verdict) → a ≡ admission s rows n (length proposal) (length old) → (r : Refusal) → a ≡ Err r
      → Meets (outcome s rows n k proposal old) a old
  refused-meets a is r e = subst (λ (v : Verdict). Meets (outcome s rows n k proposal old) v old) (sym e) (meets-refused r (refused-first r (sym is ∙ e)))

  admitted-first : admission s rows n (length proposal) (length old) ≡ (Ok tt) → proposal_verdict s rows n k proposal (length old) ≡ placing load place n s.m
  unfolding proposal_verdict
  admitted-first e = rw e

  -- the three returns of an admitted call
  module _ (e : admission s rows n (length proposal) (length old) ≡ (Ok tt)) where
    pub out-of-range-meets : (x : ℕ) → x ≡ first_out_of_range s.m (place_in proposal) n → x < n
        → Meets (outcome s rows n k proposal old) (Err (ProcessorOutOfRange x)) old
    out-of-range-meets x f l =
        let first : first_out_of_range s.m place n < n = omega arith in
        meets-refused _ (admitted-first e ∙ (placing-out-of-range load place n s.m first ∙ rw f))

    module _ (each : n ≤ first_out_of_range s.m (place_in proposal) n) where
      pub overfull-meets : (x : ℕ) → x ≡ before_overfull (loads_under s rows n k) (place_in proposal) n s.m → x < s.m
          → Meets (outcome s rows n k proposal old) (Err (ProcessorOverfull (x + 1))) old
      overfull-meets x f l =
          let lowest : before_overfull load place n s.m < s.m = omega arith in
          meets-refused _ (admitted-first e ∙ (placing-overfull load place n s.m each lowest ∙ rw f))

      pub well-meets : s.m ≤ before_overfull (loads_under s rows n k) (place_in proposal) n s.m → (new : List ℕ)
          → new ≡ loads_to (loads_under s rows n k) (place_in proposal) n s.m ++ drop s.m old
          → Meets (outcome s rows n k proposal old) (Ok tt) new
      well-meets h new w = meets-accepted (admitted-first e ∙ placing-well load place n s.m each h) new w

  -- Ask 7: "accept exactly those proposals where each processor is from 1 to m and each load is at most S", once refusals 2 to 6 are past
  judged-sound : proposal_verdict s rows n k proposal (length old) ≡ (Ok tt)
      → (admission s rows n (length proposal) (length old) ≡ (Ok tt)) × Sound load place n s.m
  unfolding proposal_verdict
  judged-sound e = let a = then-admitted _ _ e in (a.0, placed-sound load place n s.m a.1)

  pub sound-judged : admission s rows n (length proposal) (length old) ≡ (Ok tt) → Sound (loads_under s rows n k) (place_in proposal) n s.m
      → proposal_verdict s rows n k proposal (length old) ≡ (Ok tt)
  sound-judged a w = admitted-first a ∙ sound-placed load place n s.m w

  handed-judged : (outcome s rows n k proposal old).handed ≡ accepted tt → proposal_verdict s rows n k proposal (length old) ≡ (Ok tt)
  unfolding outcome
  handed-judged e = verdict-one _ (Ok tt) e

  pub accepted-exactly : (outcome s rows n k proposal old).handed ≡ accepted tt
      → (admission s rows n (length proposal) (length old) ≡ (Ok tt)) × Sound (loads_under s rows n k) (place_in proposal) n s.m
  accepted-exactly e = judged-sound (handed-judged e)

  pub exactly-accepted : admission s rows n (length proposal) (length old) ≡ (Ok tt) → Sound (loads_under s rows n k) (place_in proposal) n s.m
      → (outcome s rows n k proposal old).handed ≡ accepted tt
  unfolding outcome
  exactly-accepted a w = ap handed_verdict (sound-judged a w)

  -- Ask 7: "On acceptance the loads handed back add up to the sum of the shares"
  pub accepted-adds-up : (outcome s rows n k proposal old).handed ≡ accepted tt
      → sum_to (λ j. get_or (outcome s rows n k proposal old).loads j 0) s.m ≡ sum_to (loads_under s rows n k) n
  unfolding outcome loads_to
  accepted-adds-up h =
      let e = handed-judged h in
      let on : ℕ → ℕ = λ j. processor_load load place n (j + 1) in
      rw e
      (sum-cong (λ j. get_or (list_to on s.m ++ drop s.m old) j 0) on s.m (λ j l. list_at 0 on s.m j (drop s.m old) l)
      ∙ loads-add-up load place s.m n (judged-sound e).1.each)

  -- a refused call leaves the output as it was
  pub refused-leaves : (r : Refusal) (loads : List ℕ) → Meets (outcome s rows n k proposal old) (Err r) loads → loads ≡ old
  unfolding outcome
  refused-leaves r loads w = w.leaves ∙ rw (← w.answers, ne_eqb (number_of r) 0 (apart r))

  -- the refusals 2 to 6 come first
  pub first-refused : (r : Refusal) → admission s rows n (length proposal) (length old) ≡ Err r → (v : Verdict) (loads : List ℕ)
      → Meets (outcome s rows n k proposal old) v loads → v ≡ Err r
  unfolding outcome
  first-refused r e v loads w = verdict-one v (Err r) (w.answers ∙ ap handed_verdict (refused-first r e))

  -- and where none of them is given, a refusal is by 13 or by 14
  pub last-refused : admission s rows n (length proposal) (length old) ≡ (Ok tt) → (r : Refusal) (loads : List ℕ)
      → Meets (outcome s rows n k proposal old) (Err r) loads → (number_of r ≡ 13) ⊎ (number_of r ≡ 14)
  unfolding outcome
  last-refused a r loads w =
      placing-refused load place n s.m r (sym (verdict-one (Err r) _ (w.answers ∙ ap handed_verdict (admitted-first a))))

-- no second answer, nor a second content of the output
pub no-second-answer : (o : Outcome) (v w : Verdict) (ls ls' : List ℕ) → Meets o v ls → Meets o w ls' → (v ≡ w) × (ls ≡ ls')
no-second-answer o v w ls ls' x y = (verdict-one v w (x.answers ∙ sym y.answers), x.leaves ∙ sym y.leaves)

-- tables that agree on the first n records are answered alike; where n is too large, any two are
module _ (s : Settings) (xs ys : List Task) (n k : ℕ) (proposal old : List ℕ) where
  pub outcome-same : (n ≤ most_tasks → (i : ℕ) → i < n → at xs i ≡ at ys i) → outcome s xs n k proposal old ≡ outcome s ys n k proposal old
  unfolding outcome proposal_verdict admission
  outcome-same same = by (gate_of s n (length proposal) (length old)) refl
    where
      by : (g : Verdict) → gate_of s n (length proposal) (length old) ≡ g → outcome s xs n k proposal old ≡ outcome s ys n k proposal old
      by (Ok _) e =
          let first = same (gate-passed s n (length proposal) (length old) e).few.few in
          rw (bad-same s.swap s.notch xs ys n first, loads-same s xs ys n first)
      by (Err r) e = rw (e, ne_eqb (number_of r) 0 (apart r))

-- proposals that both have n entries, and agree on those, are answered alike, and so are any two that have fewer
module _ (s : Settings) (rows : List Task) (n k : ℕ) (p q old : List ℕ) where
  refused-alike : (r : Refusal) → gate (misset_numbers s) n ≡ Err r → outcome s rows n k p old ≡ outcome s rows n k q old
  unfolding outcome proposal_verdict admission
  refused-alike r e = rw (e, ne_eqb (number_of r) 0 (apart r))

  short-alike : gate (misset_numbers s) n ≡ (Ok tt) → length p < n → length q < n → outcome s rows n k p old ≡ outcome s rows n k q old
  unfolding outcome proposal_verdict admission
  short-alike e h g = rw (e, lt-ltb (length p) n h, lt-ltb (length q) n g)

  pub outcome-short : (n ≤ most_tasks → length p < n) → (n ≤ most_tasks → length q < n) → outcome s rows n k p old ≡ outcome s rows n k q old
  outcome-short h g = by (gate (misset_numbers s) n) refl
    where
      by : (a : Verdict) → gate (misset_numbers s) n ≡ a → outcome s rows n k p old ≡ outcome s rows n k q old
      by (Ok _) e = let few = (gate-opens (misset_numbers s) n e).1 in short-alike e (h few) (g few)
      by (Err r) e = refused-alike r e

  module _ (same : (i : ℕ) → i < n → place_in p i ≡ place_in q i) where
    range-alike : first_out_of_range s.m (place_in p) n ≡ first_out_of_range s.m (place_in q) n
    unfolding first_out_of_range
    range-alike =
        first_cong (λ i. is_out_of_range s.m (place_in p i)) (λ i. is_out_of_range s.m (place_in q i)) n
        (λ i l. ap (is_out_of_range s.m) (same i l))

    module _ (load : ℕ → ℕ) where
      load-alike : (j : ℕ) → processor_load load (place_in p) n (j + 1) ≡ processor_load load (place_in q) n (j + 1)
      load-alike j = load_same load load (place_in p) (place_in q) n (j + 1) (λ i l. refl) same

      overfull-alike : before_overfull load (place_in p) n s.m ≡ before_overfull load (place_in q) n s.m
      unfolding before_overfull
      overfull-alike =
          first_cong (λ j. is_overfull (processor_load load (place_in p) n (j + 1))) (λ j. is_overfull (processor_load load (place_in q) n (j + 1))) s.m
          (λ j l. ap is_overfull (load-alike j))

      loads-alike : loads_to load (place_in p) n s.m ≡ loads_to load (place_in q) n s.m
      unfolding loads_to
      loads-alike =
          list-cong (λ j. processor_load load (place_in p) n (j + 1)) (λ j. processor_load load (place_in q) n (j + 1)) s.m (λ j l. load-alike j)

    pub outcome-entries : n ≤ length p → n ≤ length q → outcome s rows n k p old ≡ outcome s rows n k q old
    unfolding outcome proposal_verdict admission placing
    outcome-entries h g =
        let load = loads_under s rows n k in
        rw (le-ltb (length p) n h, le-ltb (length q) n g, range-alike, overfull-alike load, loads-alike load)
