-- A tick that goes back: it can make tasks not due, but none due.
-- Assumes nothing.
use Rattle.ground.proofs.Kit.{ℕ, ◌+◌, ◌-◌, ◌%◌, ◌≤◌, ◌<◌, List, ◌∷◌, ◌≡◌, ap, arith, length}
use Rattle.ground.proofs.Cases.{by_le}
use Rattle.kinds.specs.Limits.{longest_period}
use Rattle.clock.specs.declared.Clock.{Clock}
use Rattle.clock.specs.Ticks.{turn, half_turn, behind}
use Rattle.clock.specs.Start.{started}
use Rattle.clock.specs.Call.{Due}
use Rattle.clock.proofs.Wrap.{behind-due, behind-not}
use Rattle.clock_time.specs.Time.{clock_after, next_after, furthest, Premise}
use Rattle.clock_time.proofs.InStep.{Shows, Kept, kept, call-around}

module _ (ps : List ℕ) (c : Clock) (next : ℕ → ℕ) (s : Shows ps c next) (t i : ℕ) (l : i < length ps) where
  -- what is due on 32 bits is due in unbroken time
  pub due-then : next i ≤ t + half_turn → Due c (t % turn) i → next i ≤ t
  due-then a d =
      by_le (next i) t
      (λ h. h)
      (λ h. let n : half_turn ≤ behind (t % turn) (next i % turn) = behind-not t (next i) h a in
      absurd (omega (arith, n, d.below, ap (behind (t % turn)) (s.releases i l))))

  -- and the other way round
  due-now : t < next i + half_turn → next i ≤ t → Due c (t % turn) i
  due-now near h =
      let e : behind (t % turn) (next i % turn) ≡ t - next i = behind-due t (next i) h near in
      record { there = omega (arith, s.count); below = omega (arith, e, ap (behind (t % turn)) (s.releases i l)) }

module _ (ps : List ℕ) (from : ℕ) (start : (started ps (from % turn)).number ≡ 0) where
  -- Ask 12: "A tick at most 1,000,000,000 behind the furthest one given (the start included) can make tasks not due, but none due."
  -- What is due at such a tick is due at the furthest one.
  pub none-made-due : (h : List ℕ) → Premise ps from h
      → (t : ℕ) → t ≤ furthest ps from h → furthest ps from h ≤ t + longest_period
      → (i : ℕ) → Due (clock_after ps from h) (t % turn) i → Due (clock_after ps from h) (furthest ps from h % turn) i
  none-made-due h q t low back i d =
      let c = clock_after ps from h in
      let x = next_after ps from h in
      let k : Kept ps from h = kept ps from start h q in
      let l : i < length ps = omega (arith, d.there, k.shows.count) in
      let then : x i ≤ t = due-then ps c x k.shows t i l (omega (arith, k.bounded.ahead i l)) d in
      due-now ps c x k.shows (furthest ps from h) i l (k.bounded.near i l) (omega arith)

  -- under the premise a task is due on 32 bits exactly when its release is not after the tick
  pub due-exactly : (h : List ℕ) (t : ℕ) → Premise ps from (t ∷ h) → (i : ℕ) → i < length ps
      → (Due (clock_after ps from h) (t % turn) i → next_after ps from h i ≤ t) × (next_after ps from h i ≤ t → Due (clock_after ps from h) (t % turn) i)
  unfolding Premise
  due-exactly h t q i l =
      let c = clock_after ps from h in
      let x = next_after ps from h in
      let s = (kept ps from start h q.0).shows in
      (due-then ps c x s t i l ((call-around ps from start h t q).ahead i l), due-now ps c x s t i l (q.2 i l))
