-- The tick stands still after a history of calls: a due task is handed back within as many calls as releases wait at or before its own. The
-- last law is the one to look for.
-- Assumes nothing.
use Rattle.ground.proofs.Kit.{ℕ, suc, ◌-◌, ◌%◌, ◌≤◌, ◌<◌, List, [], ◌∷◌, ◌≡◌, ◌∙◌, ap, arith, length}
use Rattle.ground.proofs.Folds.{sum-cong}
use Rattle.clock.specs.declared.Clock.{Clock}
use Rattle.clock.specs.Ticks.{turn, late}
use Rattle.clock.specs.Start.{every, started}
use Rattle.clock.specs.Call.{period_of, late_at, Due}
use Rattle.clock.proofs.Wrap.{late_is}
use Rattle.clock_time.specs.Time.{clock_after, next_after, Premise}
use Rattle.clock_time.specs.Waiting.{releases_by, waiting, Regular, waiting_at, HandedWithin}
use Rattle.clock_time.proofs.Releases.{late-counted}
use Rattle.clock_time.proofs.Lowered.{regular-call, handed-from}
use Rattle.clock_time.proofs.InStep.{Shows, Around, kept, call-around}
use Rattle.clock_time.proofs.Back.{due-then}

module _ (ps : List ℕ) (c : Clock) (next : ℕ → ℕ) (s : Shows ps c next) where
  regular-shown : Regular c
  regular-shown = record {
    few = omega (arith, s.count, s.whole.few);
    room = omega (arith, s.count, s.room, s.whole.few);
    narrow = λ i l. omega (arith, s.releases i (omega (arith, s.count)));
    some = λ i l. let m : i < length ps = omega (arith, s.count) in omega (arith, s.periods i m, (s.whole.fair i m).some);
    most = λ i l. let m : i < length ps = omega (arith, s.count) in omega (arith, s.periods i m, (s.whole.fair i m).most);
  }

  module _ (t : ℕ) (a : Around (length ps) next t) where
    late-shown : (i : ℕ) → i < length ps → late_at c (t % turn) i ≡ suc t - next i
    late-shown i l = ap (late (t % turn)) (s.releases i l) ∙ late_is t (next i) (a.ahead i l) (a.near i l)

    -- as many releases wait on 32 bits as in unbroken time
    same-wait : (j : ℕ) → j < length ps → next j ≤ t → waiting_at c (t % turn) (late_at c (t % turn) j) ≡ waiting (length ps) (every ps) next j
    unfolding waiting waiting_at
    same-wait j there due =
        rw s.count
        (sum-cong
        (λ i. releases_by (late_at c (t % turn) j) (period_of c i) (late_at c (t % turn) i))
        (λ i. releases_by (next i) (every ps i) (next j))
        (length ps)
        (λ i l. rw (late-shown j there, late-shown i l, s.periods i l) (late-counted (every ps i) (next i) (next j) t due)))

module _ (ps : List ℕ) (from : ℕ) (start : (started ps (from % turn)).number ≡ 0) where
  -- whatever the calls before, a clock that was started is one to which the laws of `Lowered` apply
  pub regular-after : (h : List ℕ) → Regular (clock_after ps from h)
  unfolding clock_after Premise
  regular-after [] = regular-shown ps (clock_after ps from []) (next_after ps from []) (kept ps from start [] tt).shows
  regular-after (t ∷ h) = regular-call (clock_after ps from h) (regular-after h) (t % turn)

  -- Ask 12: "with the tick standing still, a due task is handed back within as many calls as there are releases not yet handed back, over all
  -- tasks, that come at or before its own"
  pub handed-within : (h : List ℕ) (t : ℕ) → Premise ps from (t ∷ h) → (j : ℕ) → Due (clock_after ps from h) (t % turn) j
      → HandedWithin (waiting (length ps) (every ps) (next_after ps from h) j) (clock_after ps from h) (t % turn) j
  unfolding Premise
  handed-within h t q j d =
      let c = clock_after ps from h in
      let x = next_after ps from h in
      let s = (kept ps from start h q.0).shows in
      let a = call-around ps from start h t q in
      let l : j < length ps = omega (arith, d.there, s.count) in
      let due : x j ≤ t = due-then ps c x s t j l (a.ahead j l) d in
      rw (← same-wait ps c x s t a j l due) (handed-from c (regular-after h) (t % turn) j d)
