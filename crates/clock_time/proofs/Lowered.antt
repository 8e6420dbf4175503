-- The tick stands still, on any clock of 32 bits whose periods are 1 to 1,000,000,000: each call lowers the number of waiting releases by one,
-- so that a due task is handed back within that many. Nothing is asked of the calls before. The last law is the one to look for.
-- Assumes nothing.
use Rattle.ground.proofs.Kit.{ℕ, zero, suc, ◌+◌, ◌-◌, ◌%◌, ◌≤◌, ◌<◌, [], ◌∷◌, ◌≡◌, sym, ◌∙◌, ap, arith, length, length-set}
use Rattle.ground.proofs.Cases.{by_le, by-eq}
use Rattle.kinds.specs.Answer.{accepted}
use Rattle.clock.specs.declared.Clock.{Clock}
use Rattle.clock.specs.Ticks.{turn, half_turn, behind, late}
use Rattle.clock.specs.Call.{next_of, period_of, late_at, Due, HandsBack, released, moved_on, after_call}
use Rattle.clock.proofs.Wrap.{late_due, late-not}
use Rattle.clock.proofs.Calls.{by_call, none-keeps, moved_on_lem, moves-on, others-stay, periods-stay}
use Rattle.clock_time.specs.Waiting.{releases_by, Regular, waiting_at, after_calls, HandedWithin}
use Rattle.clock_time.proofs.Releases.{one_less, sum-one-less}

-- a due release that moves on by a period is that much less behind, or no longer due
behind-less : (present next period : ℕ) → next < turn → period ≤ behind present next
    → behind present ((next + period) % turn) ≡ behind present next - period
unfolding behind
behind-less present next period l h = omega arith

passed : (present next period : ℕ) → next < turn → period ≤ half_turn → behind present next < period
    → half_turn ≤ behind present ((next + period) % turn)
unfolding behind
passed present next period l m h = omega arith

late-less : (present next period : ℕ) → next < turn → period ≤ half_turn → behind present next < half_turn
    → late present ((next + period) % turn) ≡ late present next - period
late-less present next period l m due =
    let before : late present next ≡ suc (behind present next) = late_due present next due in
    by_le period (behind present next)
    (λ h. let e = behind-less present next period l h in
    late_due present ((next + period) % turn) (omega (arith, e)) ∙ omega (arith, e))
    (λ h. late-not present ((next + period) % turn) (passed present next period l m h) ∙ omega arith)

-- task i is handed back
module _ (c : Clock) (r : Regular c) (present i : ℕ) (a : released c present ≡ accepted (i ∷ [])) (w : HandsBack c present i) where
  here-less : late_at (after_call c present) present i ≡ late_at c present i - period_of c i
  here-less =
      let there : i < c.n = w.due.there in
      ap (late present) (moves-on c present i a (omega (arith, there, r.room)))
      ∙ late-less present (next_of c i) (period_of c i) (r.narrow i there) (omega (arith, r.most i there)) w.due.below

  others-as-late : (k : ℕ) → (i ≡ k → ⊥) → late_at (after_call c present) present k ≡ late_at c present k
  others-as-late k d = ap (late present) (others-stay c present i a k (λ q. d (sym q)))

  -- one less of the releases that are as late as this one, or less late
  lowered : (lateness : ℕ) → 1 ≤ lateness → lateness ≤ late_at c present i
      → waiting_at c present lateness ≡ suc (waiting_at (after_call c present) present lateness)
  unfolding waiting_at
  lowered lateness o l =
      let after = after_call c present in
      let stay = periods-stay c present i a in
      let there : i < c.n = w.due.there in
      rw (stay.1, stay.0)
      (sum-one-less
      (λ k. releases_by lateness (period_of c k) (late_at c present k))
      (λ k. releases_by lateness (period_of c k) (late_at after present k))
      c.n i there
      (one_less lateness (period_of c i) (late_at c present i) (r.some i there) o l ∙ rw here-less)
      (λ k m d. rw (others-as-late k d)))

  -- the clock stays one of the kind
  room-stays : length (after_call c present).next ≡ length c.next
  unfolding moved_on
  room-stays = rw (moved_on_lem c present i a) (length-set c.next i ((next_of c i + period_of c i) % turn))

  regular-moved : Regular (after_call c present)
  regular-moved =
      let stay = periods-stay c present i a in
      let room : i < length c.next = omega (arith, w.due.there, r.room) in
      record {
        few = omega (arith, stay.1, r.few);
        room = omega (arith, stay.1, room-stays, r.room);
        narrow = λ k l. by-eq i k
            (λ e. rw (← e) (omega (arith, moves-on c present i a room)))
            (λ d. omega (arith, others-stay c present i a k (λ q. d (sym q)), r.narrow k (omega (arith, stay.1))));
        some = λ k l. rw stay.0 (r.some k (omega (arith, stay.1)));
        most = λ k l. rw stay.0 (r.most k (omega (arith, stay.1)));
      }

  -- and another due task stays due
  due-still : (j : ℕ) → (i ≡ j → ⊥) → Due c present j → Due (after_call c present) present j
  due-still j d due = record {
    there = omega (arith, (periods-stay c present i a).1, due.there);
    below = rw (others-stay c present i a j (λ q. d (sym q))) due.below;
  }

pub regular-call : (c : Clock) → Regular c → (present : ℕ) → Regular (after_call c present)
regular-call c r present = by_call c present r.few (λ e z. rw (none-keeps c present e) r) (λ i a w. regular-moved c r present i a w)

module _ (c : Clock) (r : Regular c) (present j : ℕ) (due : Due c present j) where
  own-late : late_at c present j ≡ suc (behind present (next_of c j))
  own-late = late_due present (next_of c j) due.below

  -- none is later than the task that is handed back
  less-late : (i : ℕ) → HandsBack c present i → late_at c present j ≤ late_at c present i
  less-late i w = omega (arith, own-late, late_due present (next_of c i) w.due.below, w.greatest j due)

  -- each call lowers, by exactly one, the number of releases at or before that of a due task
  pub call-lowers : waiting_at c present (late_at c present j) ≡ suc (waiting_at (after_call c present) present (late_at c present j))
  call-lowers =
      by_call c present r.few
      (λ e z. absurd (z j due))
      (λ i a w. lowered c r present i a w (late_at c present j) (omega (arith, own-late)) (less-late i w))

-- handed back by the first call
at_once : (c : Clock) (present most j : ℕ) → released c present ≡ accepted (j ∷ []) → HandedWithin (suc most) c present j
unfolding after_calls
at_once c present most j e = record { calls = 0; soon = omega arith; handed = e }

-- one call more
one_more : (c : Clock) (present most j : ℕ) → HandedWithin most (after_call c present) present j → HandedWithin (suc most) c present j
unfolding after_calls
one_more c present most j h = record { calls = suc h.calls; soon = omega (arith, h.soon); handed = h.handed }

within : (most : ℕ) (c : Clock) → Regular c → (present j : ℕ) → Due c present j → waiting_at c present (late_at c present j) ≤ most
    → HandedWithin most c present j
within zero c r present j due l = absurd (omega (arith, call-lowers c r present j due))
within (suc most) c r present j due l =
    by_call c present r.few
    (λ e z. absurd (z j due))
    (λ i a w. by-eq i j
    (λ q. at_once c present most j (a ∙ ap (λ (k : ℕ). accepted (k ∷ [])) q))
    (λ d. let fewer : waiting_at (after_call c present) present (late_at (after_call c present) present j) ≤ most =
    rw (others-as-late c r present i a w j d) (omega (arith, call-lowers c r present j due)) in
    one_more c present most j
    (within most (after_call c present) (regular-moved c r present i a w) present j (due-still c r present i a w j d due) fewer)))

-- with the tick standing still a due task is handed back within as many calls as releases wait at or before its own
pub handed-from : (c : Clock) → Regular c → (present j : ℕ) → Due c present j
    → HandedWithin (waiting_at c present (late_at c present j)) c present j
handed-from c r present j due = within (waiting_at c present (late_at c present j)) c r present j due (omega arith)
