-- How a caller meets the premise: call until none is due, and come back within 2,147,483,648 ticks.
-- Assumes nothing.
use Rattle.ground.proofs.Kit.{ℕ, ◌+◌, ◌%◌, ◌≤◌, ◌<◌, List, [], ◌∷◌, ◌≡◌, sym, ◌∙◌, ap, arith, length}
use Rattle.kinds.specs.Answer.{Handed, accepted}
use Rattle.kinds.specs.Limits.{longest_period}
use Rattle.clock.specs.Ticks.{turn, half_turn}
use Rattle.clock.specs.Start.{started}
use Rattle.clock.specs.Call.{released}
use Rattle.clock_time.specs.Time.{earliest, clock_after, next_after, furthest, Premise}
use Rattle.clock_time.proofs.Unbroken.{by-earliest, after-up}
use Rattle.clock_time.proofs.InStep.{in_step}

-- the first call comes at the start, or less than half a turn after it
pub premise-first : (ps : List ℕ) (from t : ℕ) → from ≤ t + longest_period → t < from + half_turn → Premise ps from (t ∷ [])
unfolding Premise next_after furthest
premise-first ps from t a b = (tt, a, λ i l. b)

-- with the tick standing still the premise goes on holding
pub premise-still : (ps : List ℕ) (from : ℕ) (h : List ℕ) (t : ℕ) → Premise ps from (t ∷ h) → Premise ps from (t ∷ t ∷ h)
unfolding Premise next_after furthest
premise-still ps from h t q = (q, omega (arith, q.1), λ i l. omega (arith, q.2 i l, after-up ps (next_after ps from h) t i))

-- when none is due at t, the next tick may be anything up to 2,147,483,648 later, and at most 1,000,000,000 behind the furthest
pub premise-after-none : (ps : List ℕ) (from : ℕ) → (started ps (from % turn)).number ≡ 0 → (h : List ℕ) (t : ℕ) → Premise ps from (t ∷ h)
    → released (clock_after ps from h) (t % turn) ≡ accepted []
    → (u : ℕ) → furthest ps from (t ∷ h) ≤ u + longest_period → u ≤ t + half_turn → Premise ps from (u ∷ t ∷ h)
unfolding Premise next_after
premise-after-none ps from start h t q a u back far =
    let x = next_after ps from h in
    let e : earliest (length ps) x t ≡ [] = ap (λ (r : Handed (List ℕ)). r.value) (sym (in_step ps from start h t q) ∙ a) in (
      q,
      back,
      λ i l. by-earliest (length ps) x t
          (λ d. rw e (omega (arith, d.early i l)))
          (λ w d. let g : w ∷ [] ≡ [] = sym d.is ∙ e in let z : ◌≡◌ {A = ℕ} 0 1 = cc in absurd (omega arith)),
    )
