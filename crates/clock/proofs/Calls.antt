-- The call: its three answers, the document's sentences, and that no second answer fits.
-- Assumes nothing.
use Rattle.ground.proofs.Kit.{ℕ, ◌+◌, ◌%◌, ◌≤◌, ◌<◌, List, [], ◌∷◌, ◌≡◌, refl, sym, ◌∙◌, ap, arith, length, take, length-take-le, get_or-set_same, get_or-set_other, lt-ltb, le-ltb, Option, None, Some, Ok, Err}
use Rattle.ground.proofs.Cases.{by_le}
use Rattle.ground.proofs.Folds.{le-max-to}
use Rattle.kinds.specs.declared.Refusal.{Refusal}
use Rattle.kinds.specs.declared.Refusal.TheVariants.{TooManyTasks}
use Rattle.kinds.specs.Answer.{Handed, accepted, refused}
use Rattle.kinds.specs.Limits.{most_tasks}
use Rattle.kinds.proofs.Answers.{not-refused, refused-one}
use Rattle.clock.specs.declared.Clock.{Clock}
use Rattle.clock.specs.Ticks.{turn, half_turn, behind, late, latest}
use Rattle.clock.specs.Handover.{latest_of}
use Rattle.clock.specs.Call.{next_of, period_of, late_at, Due, HandsBack, released, moved_on, afterwards, after_call, Release, handed_release, CallIs}
use Rattle.std.specs.Option.{option_to_list}
use Rattle.std.proofs.lemmas.List.{get_or-take}
use Rattle.clock.proofs.Wrap.{late_due, due-late}
use Rattle.clock.proofs.Greatest.{Most, by-latest, latest-cong}

none-one : {X : Type 0} (i : ℕ) → [] ≡ i ∷ [] → X
none-one i e = let z : ◌≡◌ {A = ℕ} 0 1 = cc in absurd (omega arith)

same-one : (i j : ℕ) → i ∷ [] ≡ j ∷ [] → i ≡ j
same-one i j e = cc

module _ (c : Clock) (present : ℕ) where
  pub released-many : most_tasks < c.n → released c present ≡ refused [] (TooManyTasks c.n)
  unfolding released
  released-many h = rw (lt-ltb most_tasks c.n h)

  pub released-few : c.n ≤ most_tasks → released c present ≡ accepted (latest (late_at c present) c.n)
  unfolding released
  released-few h = rw (le-ltb most_tasks c.n h)

  after-by : (tasks : List ℕ) → (released c present).value ≡ tasks → afterwards c tasks ≡ after_call c present
  unfolding after_call
  after-by tasks e = ap (afterwards c) (sym e)

  -- what the two returns of the call hand back
  pub called-many : most_tasks < c.n → CallIs c present (Err (TooManyTasks c.n)) c
  called-many h =
      let e = released-many h in
      record { answers = sym e; leaves = after-by [] (ap (λ (x : Handed (List ℕ)). x.value) e) }

  pub called-few : c.n ≤ most_tasks → (task : Option ℕ) → option_to_list task ≡ latest (late_at c present) c.n → (left : Clock)
      → left ≡ afterwards c (option_to_list task) → CallIs c present (Ok task) left
  called-few few task l left m =
      let e : released c present ≡ accepted (option_to_list task) = released-few few ∙ ap accepted (sym l) in
      record { answers = sym e; leaves = m ∙ after-by (option_to_list task) (ap (λ (x : Handed (List ℕ)). x.value) e) }

  -- the two cases of a call that is not refused
  hands : (i : ℕ) → 0 < late_at c present i → Most (late_at c present) c.n i → HandsBack c present i
  hands i h m =
      let b : behind present (next_of c i) < half_turn = due-late present (next_of c i) h in
      let e : late_at c present i ≡ _ = late_due present (next_of c i) b in
      record {
        due = record { there = m.there; below = b };
        greatest = λ j d. omega (arith, e, m.greatest, late_due present (next_of c j) d.below, le-max-to (late_at c present) c.n j d.there);
        lowest = λ j g d. omega (arith, e, m.greatest, late_due present (next_of c j) d.below, m.lowest j g);
      }

  pub by_call : {X : Type 0} → c.n ≤ most_tasks
      → (released c present ≡ accepted [] → ((i : ℕ) → Due c present i → ⊥) → X)
      → ((i : ℕ) → released c present ≡ accepted (i ∷ []) → HandsBack c present i → X) → X
  by_call few none one =
      by-latest (late_at c present) c.n
      (λ e z. none (released-few few ∙ ap accepted e) (λ i d. omega (arith, z i d.there, late_due present (next_of c i) d.below)))
      (λ i e h m. one i (released-few few ∙ ap accepted e) (hands i h m))

  -- at most one task can be the one to hand back
  one-hands-back : (i j : ℕ) → HandsBack c present i → HandsBack c present j → i ≡ j
  one-hands-back i j a b =
      by_le i j
      (λ h. by_le j i (λ g. omega arith) (λ g. absurd (omega (arith, b.lowest i g a.due, a.greatest j b.due))))
      (λ h. absurd (omega (arith, a.lowest j h b.due, b.greatest i a.due)))

  -- of at most 32 tasks: i is handed back exactly when it is the due task that is furthest behind, lowest record on a tie
  pub hands-back : c.n ≤ most_tasks → (i : ℕ) → released c present ≡ accepted (i ∷ []) → HandsBack c present i
  hands-back few i a =
      by_call few
      (λ e z. none-one i (ap (λ (x : Handed (List ℕ)). x.value) (sym e ∙ a)))
      (λ j e b. let q : j ≡ i = same-one j i (ap (λ (x : Handed (List ℕ)). x.value) (sym e ∙ a)) in rw q at b)

  pub handed-back : c.n ≤ most_tasks → (i : ℕ) → HandsBack c present i → released c present ≡ accepted (i ∷ [])
  handed-back few i b =
      by_call few
      (λ e z. absurd (z i b.due))
      (λ j e a. e ∙ ap (λ (k : ℕ). accepted (k ∷ [])) (one-hands-back j i a b))

  -- and none exactly when none is due
  pub none-due : c.n ≤ most_tasks → released c present ≡ accepted [] → (i : ℕ) → Due c present i → ⊥
  none-due few a i d =
      by_call few
      (λ e z. z i d)
      (λ j e b. none-one j (ap (λ (x : Handed (List ℕ)). x.value) (sym a ∙ e)))

  pub none : c.n ≤ most_tasks → ((i : ℕ) → Due c present i → ⊥) → released c present ≡ accepted []
  none few z = by_call few (λ e _. e) (λ i e b. absurd (z i b.due))

  -- Ask 12: "with none due it says so and changes nothing"; a refused call changes nothing either
  pub none-keeps : released c present ≡ accepted [] → after_call c present ≡ c
  unfolding after_call
  none-keeps a = rw a

  pub refused-keeps : (r : Refusal) → released c present ≡ refused [] r → after_call c present ≡ c
  unfolding after_call
  refused-keeps r a = rw a

  module _ (i : ℕ) (a : released c present ≡ accepted (i ∷ [])) where
    pub moved_on_lem : after_call c present ≡ moved_on c i
    unfolding after_call
    moved_on_lem = rw a

    -- Ask 12: "moves that task's next release on by its period, wrapping"
    pub moves-on : i < length c.next → next_of (after_call c present) i ≡ (next_of c i + period_of c i) % turn
    unfolding moved_on
    moves-on l = rw moved_on_lem (get_or-set_same c.next i ((next_of c i + period_of c i) % turn) 0 l)

    -- the others stay, and so do the periods and the count
    pub others-stay : (j : ℕ) → (j ≡ i → ⊥) → next_of (after_call c present) j ≡ next_of c j
    unfolding moved_on
    others-stay j d = rw moved_on_lem (get_or-set_other c.next i j ((next_of c i + period_of c i) % turn) 0 d)

    pub periods-stay : ((after_call c present).periods ≡ c.periods) × ((after_call c present).n ≡ c.n)
    unfolding moved_on
    periods-stay = rw moved_on_lem (refl, refl)

-- the call looks at the next releases that count
pub latest-front : (c : Clock) (present : ℕ) → c.n ≤ length c.next → latest_of present (take c.n c.next) ≡ latest (late_at c present) c.n
latest-front c present h =
    rw (length-take-le c.n c.next h)
    (latest-cong _ (late_at c present) c.n (λ i l. ap (late present) (get_or-take c.n c.next i 0 l)))

-- no second answer, nor a second clock
release-one : (v w : Release) → handed_release v ≡ handed_release w → v ≡ w
release-one (Ok (Some i)) (Ok (Some j)) e = ap (λ (k : ℕ). Ok (Some k)) (same-one i j (ap (λ (x : Handed (List ℕ)). x.value) e))
release-one (Ok (Some i)) (Ok None) e = none-one i (sym (ap (λ (x : Handed (List ℕ)). x.value) e))
release-one (Ok None) (Ok (Some j)) e = none-one j (ap (λ (x : Handed (List ℕ)). x.value) e)
release-one (Ok None) (Ok None) e = refl
release-one (Ok v) (Err r) e = not-refused (option_to_list v) [] r e
release-one (Err r) (Ok w) e = not-refused (option_to_list w) [] r (sym e)
release-one (Err r) (Err q) e = ap Err (refused-one [] r q e)

pub call-one : (c : Clock) (present : ℕ) (r q : Release) (left other : Clock) → CallIs c present r left → CallIs c present q other → (r ≡ q) × (left ≡ other)
call-one c present r q left other a b = (release-one r q (a.answers ∙ sym b.answers), a.leaves ∙ sym b.leaves)
