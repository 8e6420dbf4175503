-- The clock on 32 bits keeps step with the clock of unbroken time. The last law is the one to look for.
-- Assumes nothing.
use Rattle.ground.proofs.Kit.{ℕ, ◌+◌, ◌%◌, ◌≤◌, ◌<◌, max, List, [], ◌∷◌, ◌≡◌, refl, sym, ◌∙◌, ap, arith, length, replicate, length-set, length-replicate}
use Rattle.ground.proofs.Kit.{get_or-replicate, get_or-set_same, get_or-set_other}
use Rattle.ground.proofs.Cases.{by-eq}
use Rattle.ground.proofs.Laid.{padded-long, padded-at}
use Rattle.kinds.specs.Answer.{Handed, accepted}
use Rattle.kinds.specs.Limits.{longest_period, most_tasks}
use Rattle.clock.specs.declared.Clock.{Clock}
use Rattle.clock.specs.Ticks.{turn, half_turn, late}
use Rattle.clock.specs.Start.{every, started, clock_from}
use Rattle.clock.specs.Call.{next_of, period_of, late_at, released, moved_on, after_call}
use Rattle.clock.proofs.Wrap.{late_is, add_wraps}
use Rattle.clock.proofs.Greatest.{latest-cong}
use Rattle.clock.proofs.Starts.{Whole, begun, whole-started}
use Rattle.clock.proofs.Calls.{released-few, none-keeps, moved_on_lem}
use Rattle.clock_time.specs.Time.{late_by, earliest, onward, onward_from, clock_after, next_after, furthest, Premise}
use Rattle.clock_time.proofs.Unbroken.{by-earliest, onward-here, onward-other}

-- the clock c shows the releases of unbroken time, on 32 bits
pub record Shows (ps : List ℕ) (c : Clock) (next : ℕ → ℕ) : Type 0 where
  pub whole : Whole ps
  pub count : c.n ≡ length ps
  pub room : length c.next ≡ most_tasks
  pub periods : (i : ℕ) → i < length ps → period_of c i ≡ every ps i
  pub releases : (i : ℕ) → i < length ps → next_of c i ≡ next i % turn

-- no release is more than half a turn ahead of t, and none half a turn behind it
pub record Around (n : ℕ) (next : ℕ → ℕ) (t : ℕ) : Type 0 where
  pub ahead : (i : ℕ) → i < n → next i ≤ t + half_turn
  pub near : (i : ℕ) → i < n → t < next i + half_turn

-- no release is more than a longest period ahead of the furthest tick f, and none half a turn behind it
pub record Bounded (n : ℕ) (next : ℕ → ℕ) (f : ℕ) : Type 0 where
  pub ahead : (i : ℕ) → i < n → next i ≤ f + longest_period
  pub near : (i : ℕ) → i < n → f < next i + half_turn

-- a started clock shows the start
shows-start : (ps : List ℕ) (from : ℕ) → Whole ps → Shows ps (clock_from ps (from % turn)) (λ i. from)
unfolding clock_from
shows-start ps from w = record {
  whole = w;
  count = refl;
  room = padded-long 0 most_tasks (replicate (length ps) (from % turn));
  periods = λ i l. padded-at 0 most_tasks ps w.few i;
  releases = λ i l. padded-at 0 most_tasks (replicate (length ps) (from % turn)) (rw (length-replicate (length ps) (from % turn)) w.few) i
      ∙ get_or-replicate (length ps) i (from % turn) 0 l;
}

module _ (ps : List ℕ) (c : Clock) (next : ℕ → ℕ) (s : Shows ps c next) where
  -- task w is handed back
  shows-moved : (w : ℕ) → w < length ps → Shows ps (moved_on c w) (onward (every ps) next w)
  unfolding moved_on
  shows-moved w l =
      let v = (next_of c w + period_of c w) % turn in
      let here : v ≡ onward (every ps) next w w % turn =
      rw (s.releases w l, s.periods w l) (add_wraps (next w) (every ps w)) ∙ ap (λ (n : ℕ). n % turn) (sym (onward-here (every ps) next w)) in
      record {
        whole = s.whole;
        count = s.count;
        room = length-set c.next w v ∙ s.room;
        periods = s.periods;
        releases = λ i m. by-eq w i
            (λ e. rw (← e) (get_or-set_same c.next w v 0 (omega (arith, s.room, s.whole.few)) ∙ here))
            (λ d. get_or-set_other c.next w i v 0 (λ q. d (sym q))
            ∙ (s.releases i m ∙ ap (λ (n : ℕ). n % turn) (sym (onward-other (every ps) next w i d))));
      }

  module _ (t : ℕ) (a : Around (length ps) next t) where
    -- both clocks hand back the same
    same-release : released c (t % turn) ≡ accepted (earliest (length ps) next t)
    unfolding earliest
    same-release =
        released-few c (t % turn) (omega (arith, s.count, s.whole.few))
        ∙ ((rw s.count) ∙ ap accepted (latest-cong (late_at c (t % turn)) (late_by next t) (length ps)
        (λ i l. ap (late (t % turn)) (s.releases i l) ∙ late_is t (next i) (a.ahead i l) (a.near i l))))

    -- and stay in step
    pub shows-call : Shows ps (after_call c (t % turn)) (onward_from (every ps) next (earliest (length ps) next t))
    shows-call =
        by-earliest (length ps) next t
        (λ e. rw (none-keeps c (t % turn) (same-release ∙ ap accepted e.is), e.is) s)
        (λ w e. rw (moved_on_lem c (t % turn) w (same-release ∙ ap accepted e.is), e.is) (shows-moved w e.there))

module _ (ps : List ℕ) (whole : Whole ps) (next : ℕ → ℕ) (f : ℕ) (b : Bounded (length ps) next f)
    (t : ℕ) (near : (i : ℕ) → i < length ps → t < next i + half_turn) where
  -- a tick at most 1,000,000,000 behind the furthest has every release around it, and so has one up to 1,147,483,648 behind
  pub around : f + longest_period ≤ t + half_turn → Around (length ps) next t
  around back = record { ahead = λ i l. omega (arith, b.ahead i l); near = near }

  bounded-call : Bounded (length ps) (onward_from (every ps) next (earliest (length ps) next t)) (max t f)
  bounded-call =
      by-earliest (length ps) next t
      (λ e. rw e.is (record { ahead = λ i l. omega (arith, b.ahead i l); near = λ i l. omega (arith, near i l, b.near i l) }))
      (λ w e. rw e.is (record {
        ahead = λ i m. by-eq w i
            (λ q. rw (← q) (omega (arith, onward-here (every ps) next w, (whole.fair w e.there).most, e.due)))
            (λ q. omega (arith, onward-other (every ps) next w i q, b.ahead i m));
        near = λ i m. by-eq w i
            (λ q. rw (← q) (omega (arith, onward-here (every ps) next w, near w e.there, b.near w e.there)))
            (λ q. omega (arith, onward-other (every ps) next w i q, near i m, b.near i m));
      }))

-- what holds after every history under the premise
pub record Kept (ps : List ℕ) (from : ℕ) (h : List ℕ) : Type 0 where
  pub shows : Shows ps (clock_after ps from h) (next_after ps from h)
  pub bounded : Bounded (length ps) (next_after ps from h) (furthest ps from h)

module _ (ps : List ℕ) (from : ℕ) (start : (started ps (from % turn)).number ≡ 0) where
  abbrev pub whole : Whole ps
  whole = begun ps (from % turn) start

  clock-started : clock_after ps from [] ≡ clock_from ps (from % turn)
  unfolding clock_after
  clock-started = ap (λ (r : Handed Clock). r.value) (whole-started ps (from % turn) whole)

  pub kept : (h : List ℕ) → Premise ps from h → Kept ps from h
  unfolding clock_after next_after furthest Premise
  kept [] q = record {
    shows = rw clock-started (shows-start ps from whole);
    bounded = record { ahead = λ i l. omega arith; near = λ i l. omega arith };
  }
  kept (t ∷ h) q =
      let k : Kept ps from h = kept h q.0 in
      let x = next_after ps from h in
      let a : Around (length ps) x t = around ps whole x (furthest ps from h) k.bounded t q.2 (omega (arith, q.1)) in
      record {
        shows = shows-call ps (clock_after ps from h) x k.shows t a;
        bounded = bounded-call ps whole x (furthest ps from h) k.bounded t q.2;
      }

  -- the releases are around the tick of a call under the premise
  pub call-around : (h : List ℕ) (t : ℕ) → Premise ps from (t ∷ h) → Around (length ps) (next_after ps from h) t
  unfolding Premise
  call-around h t q = around ps whole (next_after ps from h) (furthest ps from h) (kept h q.0).bounded t q.2 (omega (arith, q.1))

  -- each call under the premise hands back what the clock of unbroken time hands back
  pub in_step : (h : List ℕ) (t : ℕ) → Premise ps from (t ∷ h)
      → released (clock_after ps from h) (t % turn) ≡ accepted (earliest (length ps) (next_after ps from h) t)
  unfolding Premise
  in_step h t q = same-release ps (clock_after ps from h) (next_after ps from h) (kept h q.0).shows t (call-around h t q)
