-- The search on the springs of a table is the search that demand 2 asks for, under each policy that is weighed and each edition.
-- Assumes nothing.
use Rattle.ground.proofs.Kit.{ℕ, ◌≤◌, min, true, false, List, ◌≡◌, refl, sym, ◌∙◌, ap, subst, arith, length, Ok, Err}
use Rattle.std.specs.Option.{ok_or}
use Rattle.ground.specs.declared.Ended.{Ended}
use Rattle.ground.specs.Folds.{max_to}
use Rattle.ground.specs.Halving.{tests_made}
use Rattle.ground.specs.Least.{least_up_to, Step}
use Rattle.ground.proofs.Cases.{by_bool}
use Rattle.ground.proofs.Folds.{max-cong}
use Rattle.ground.proofs.Halving.{made-cong}
use Rattle.ground.proofs.Least.{least-cong}
use Rattle.kinds.specs.declared.Task.{Task}
use Rattle.kinds.specs.declared.Policy.{Policy}
use Rattle.kinds.specs.declared.Settings.{Settings}
use Rattle.kinds.specs.declared.Refusal.{Refusal}
use Rattle.kinds.specs.declared.Refusal.TheVariants.{NoStepPasses}
use Rattle.kinds.specs.Answer.{accepted, Verdict, Answer}
use Rattle.kinds.specs.Policy.{is_weighed, meant}
use Rattle.kinds.specs.Settings.{tests_charge}
use Rattle.kinds.specs.Task.{at}
use Rattle.share.specs.Share.{saturation_at}
use Rattle.share.specs.Table.{shares, full_compression}
use Rattle.share.proofs.Tables.{all-good, all-on}
use Rattle.springs.specs.declared.Spring.{Spring}
use Rattle.springs.specs.Spring.{shares_on, saturations, charges_on}
use Rattle.springs.specs.declared.Springs.{Springs}
use Rattle.springs.specs.Springs.{spring_in, full_in}
use Rattle.springs.specs.Handover.{Beside, Sprung}
use Rattle.springs.proofs.Columns.{shares-are, saturations-are, loads-are}
use Rattle.policy.specs.Sides.{weights_of}
use Rattle.policy.specs.Looks.{looks_for, looks_of}
use Rattle.policy.specs.Under.{rows_under, full_under, loads_under, least_under, looks_under, most_looks}
use Rattle.policy.specs.Passing.{passes_at, least_step}
use Rattle.policy.specs.Weighed.{weighed, weighed_at, charged_at}
use Rattle.policy.proofs.LookCount.{for-same}
use Rattle.policy.proofs.Tests.{passes-weighed, passes_same}
use Rattle.policy.proofs.Under as under
use Rattle.policy.proofs.Under.{first-least}
use Rattle.admission.specs.Admission.{admission}
use Rattle.admission.specs.Handover.{AdmittedSprung}
use Rattle.admission.proofs.Chain.{admitted, passed-weighed}
use Rattle.admission.proofs.Opened.{opened}
use Rattle.outcome.specs.Plan.{outcome, Meets}
use Rattle.outcome.specs.Handover.{Leaves}
use Rattle.outcome.proofs.Found.{meets}
use Rattle.outcome.proofs.Searches.{refused-sprung, refused-meets, found-sprung}
use Rattle.halve.specs.Halves.{HalvingEnds}
use Rattle.quick_finder.specs.declared.Looked.{Looked}
use Rattle.quick_finder.specs.Looked.{looks_after, looks, MeetsLooked}
use Rattle.quick_finder.specs.Handover.{SearchEnds, SearchUnder, LookedSprung}

-- a search of the first n of some records ends at the step that demand 2 asks for, with the looks of its edition
pub record LeastFound (s : Settings) (rows : List Task) (n : ℕ) (r : Ended) : Type 0 where
  pub least : r.step ≡ least_under s rows n
  pub count : r.looks ≡ looks_under s rows n

module _ (s : Settings) (rows : List Task) (n : ℕ) (springs : Springs) (w : Sprung (rows_under s rows n) n springs) (f : is_weighed (meant s.policy) ≡ true) where
  abbrev p : Policy
  p = meant s.policy

  abbrev paid : List Task
  paid = rows_under s rows n

  -- under edition 1 the test on the springs is the policy's on the shares
  test-is : (k : ℕ) → weighed_at (weights_of p s.m n) (spring_in springs) n k ≡ passes_at p s.m (shares paid) n k
  unfolding weighed
  test-is k =
      sym (passes-weighed p s.m (shares_on (spring_in springs) k) n f)
      ∙ passes_same p s.m (shares_on (spring_in springs) k) (shares paid k) n (λ i l. shares-are paid n springs w k i l)

  full_is : max_to (saturations (spring_in springs)) n ≡ full_under s rows n
  unfolding full_compression
  full_is = max-cong (saturations (spring_in springs)) (λ i. saturation_at (at paid i)) n (saturations-are paid n springs w)

  looks-are : (step : Step) → looks_for (saturations (spring_in springs)) n step ≡ looks_of paid n step
  unfolding looks_of
  looks-are step = for-same (saturations (spring_in springs)) (λ i. saturation_at (at paid i)) n (saturations-are paid n springs w) step

  first_found : (r : Ended) → tests_charge s ≡ false
      → SearchEnds (weighed_at (weights_of p s.m n) (spring_in springs) n) (saturations (spring_in springs)) n r → LeastFound s rows n r
  unfolding least_step
  first_found r e h =
      let test = passes_at p s.m (shares paid) n in
      let shared : r.step ≡ least_step p s.m (shares paid) n (full_under s rows n) =
      h.least ∙ (least-cong (weighed_at (weights_of p s.m n) (spring_in springs) n) test _ test-is ∙ ap (least_up_to test) full_is) in
      let step = shared ∙ first-least s rows n e in
      record { least = step; count = rw e (h.count ∙ (looks-are r.step ∙ ap (looks_of paid n) step)) }

  -- under edition 2 the loads are the charges
  charged-is : tests_charge s ≡ true → (k : ℕ)
      → charged_at (weights_of p s.m n) s.notch (spring_in springs) n k ≡ passes_at p s.m (loads_under s rows n) n k
  unfolding weighed
  charged-is e k =
      let charges = charges_on s.notch (spring_in springs) k in
      sym (passes-weighed p s.m charges n f)
      ∙ passes_same p s.m charges (loads_under s rows n k) n (λ i l. rw e at (loads-are paid n springs w s k i l))

  column-is : full_in springs n ≡ full_under s rows n
  unfolding full_compression
  column-is = max-cong _ (λ i. saturation_at (at paid i)) n (λ i l. ap (λ (x : Spring). x.saturation) (w.springs i l))

  second-found : (r : Ended) → tests_charge s ≡ true
      → HalvingEnds (charged_at (weights_of p s.m n) s.notch (spring_in springs) n) (full_in springs n) r
      → LeastFound s rows n r
  unfolding least_step
  second-found r e h =
      let charged = charged_at (weights_of p s.m n) s.notch (spring_in springs) n in
      let test = passes_at p s.m (loads_under s rows n) n in
      record {
        least = h.least ∙ (least-cong charged test _ (charged-is e) ∙ ap (least_up_to test) column-is);
        count = rw e (h.count ∙ (made-cong charged test _ (charged-is e) ∙ ap (tests_made test) column-is));
      }

  pub least-found : springs.notch ≡ s.notch → (r : Ended) → SearchUnder s springs r → LeastFound s rows n r
  least-found notch r h =
      let first : ℕ → Type 0 = λ x. SearchEnds (weighed_at (weights_of p s.m x) (spring_in springs) x) (saturations (spring_in springs)) x r in
      let second : ℕ → ℕ → Type 0 = λ q x. HalvingEnds (charged_at (weights_of p s.m x) q (spring_in springs) x) (full_in springs x) r in
      by_bool (tests_charge s)
      (λ e. second-found r e (subst (λ (q : ℕ). second q n) notch (subst (λ (x : ℕ). second springs.notch x) w.count (h.second e))))
      (λ e. first_found r e (subst first w.count (h.first e)))

-- the looks of a call, as the code has them
module _ (s : Settings) (rows : List Task) (n room : ℕ) (a : Verdict) (is : a ≡ admission false s rows n room) where
  pub no-looks : {r : _} → a ≡ Err r → 0 ≡ looks s rows n room
  unfolding looks
  no-looks e = rw (← is, e)

  pub some_looks : (k : ℕ) → a ≡ (Ok tt) → k ≡ looks_under s rows n → k ≡ looks s rows n room
  unfolding looks
  some_looks k e q = rw (← is, e) q

-- a refused call makes no look
pub refused-looked : (s : Settings) (rows : List Task) (n room : ℕ) (r : Refusal) (springs : Springs) → AdmittedSprung false s rows n room (Err r) springs
    → LookedSprung s rows n room (Err r) 0 springs
refused-looked s rows n room r springs x =
    record { found = refused-sprung false s rows n room r springs x; counted = no-looks s rows n room (Err r) x.is refl }

-- an admitted one's answer and looks are those of demand 3, and of an acceptance the springs are still those
pub found-looked : (s : Settings) (rows : List Task) (n room : ℕ) (a : Verdict) (old new : Springs) → AdmittedSprung false s rows n room a old
    → a ≡ (Ok tt) → (r : Ended) → SearchUnder s old r × Beside old new → (answer : Answer) → answer ≡ ok_or r.step NoStepPasses
    → LookedSprung s rows n room answer r.looks new
found-looked s rows n room a old new x admits r h answer e =
    let passed = (opened false s rows n room a old x admits).ready.passed in
    let least = least-found s rows n old (x.sprung admits) (passed-weighed _ _ _ _ passed) x.notch r h.0 in
    record {
      found = found-sprung false s rows n room a old x admits new h.1 r.step least.least answer e;
      counted = some_looks s rows n room a x.is r.looks admits least.count;
    }

-- demand 3: at most tasks + 1; Ask 10: "never over 20" under edition 2
after-few : (a : Verdict) (k most : ℕ) → (a ≡ (Ok tt) → k ≤ most) → looks_after a k ≤ most
after-few (Ok _) k most h = h refl
after-few (Err r) k most h = omega arith

pub looks-few : (s : Settings) (rows : List Task) (n room : ℕ) → looks s rows n room ≤ most_looks s n
unfolding looks
looks-few s rows n room =
    after-few (admission false s rows n room) (looks_under s rows n) (most_looks s n)
    (λ e.
    let r = admitted false s rows n room e in
    under.looks-few s rows n (all-good s.swap s.notch rows n r.none-bad) (all-on s.swap s.notch rows n r.none-bad r.notched))

-- the whole promise, of a call that is refused and of one that is granted
module _ (s : Settings) (rows : List Task) (n : ℕ) (periods processors : List ℕ) (r : Looked) (springs : Springs)
    (x : LookedSprung s rows n (min (length periods) (length processors)) r.answer r.looks springs) where
  promised : (new-periods new-processors : List ℕ) → Meets (outcome false s rows n periods processors) r.answer new-periods new-processors
      → MeetsLooked s rows n periods processors r new-periods new-processors
  promised new-periods new-processors m = record { meets = m; count = x.counted; few = rw x.counted (looks-few s rows n _) }

  pub looked-refused : (refusal : Refusal) → r.answer ≡ Err refusal → MeetsLooked s rows n periods processors r periods processors
  looked-refused refusal e =
      promised periods processors (rw e (refused-meets false s rows n _ refusal springs (rw e at x.found) periods processors refl))

  pub looked-granted : (step : ℕ) → r.answer ≡ Ok step → (new-periods new-processors : List ℕ)
      → Leaves (accepted step) s (spring_in springs) springs.n periods processors new-periods new-processors
      → MeetsLooked s rows n periods processors r new-periods new-processors
  looked-granted step e new-periods new-processors l =
      promised new-periods new-processors (rw e (meets false step s rows n springs periods processors (rw e at x.found) new-periods new-processors l))
