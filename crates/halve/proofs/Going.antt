-- The loop that halves: one look more, and its end.
-- Assumes nothing.
use Rattle.ground.proofs.Kit.{ℕ, ◌-◌, ◌≤◌, ◌<◌, Bool, ◌≡◌, ◌∙◌, ap, arith, Some, None}
use Rattle.ground.specs.Least.{Rising}
use Rattle.ground.specs.Halving.{middle}
use Rattle.ground.proofs.Cases.{by_bool}
use Rattle.ground.proofs.Halving.{Counted, middle-in, made-few, counted-pass, counted-fail, counted-few, counted-done}
use Rattle.ground.proofs.Halving.{halved-found, halved_none}
use Rattle.springs.specs.Spring.{charges_on}
use Rattle.springs.specs.Springs.{spring_in}
use Rattle.springs.specs.declared.Spring.{Spring}
use Rattle.springs.specs.declared.Springs.{Springs}
use Rattle.springs.specs.Handover.{Chargeable, Beside}
use Rattle.springs.proofs.Shares.{charge-falls}
use Rattle.springs.proofs.Columns.{springs-beside}
use Rattle.policy.specs.declared.Weights.{Weights}
use Rattle.policy.specs.Weighed.{charged_at}
use Rattle.policy.proofs.Weighing.{weighed-stays}
use Rattle.halve.specs.declared.Range.{Range}
use Rattle.halve.specs.Halves.{half, HalvingEnds}

abbrev pub Going : (ℕ → Bool) → ℕ → Range → Type 0
Going test K r = Counted test K r.from r.to r.looks

-- few looks have been made
pub going-few : (test : ℕ → Bool) (K : ℕ) (r : Range) → K ≤ 999999 → Going test K r → r.looks ≤ 20
going-few test K r h g = omega (arith, made-few test K h, counted-few test K r.from r.to r.looks g)

module _ (test : ℕ → Bool) (r : Range) (l : r.from < r.to) where
  pub going_on : (K : ℕ) → Rising test → Going test K r → Going test K (half test r)
  going_on K up g =
      by_bool (test (middle r.from r.to))
      (λ p. rw p (counted-pass test K r.from r.to r.looks g l p))
      (λ p. rw p (counted-fail test K r.from r.to r.looks g up l p))

  pub going_less : (half test r).to - (half test r).from < r.to - r.from
  going_less =
      let m = middle-in r.from r.to l in
      by_bool (test (middle r.from r.to)) (λ p. rw p (omega (arith, m.0, m.1))) (λ p. rw p (omega (arith, m.0, m.1)))

-- nothing is left
module _ (test : ℕ → Bool) (K : ℕ) (r : Range) (g : Going test K r) (d : r.to ≤ r.from) where
  pub going-found : r.from ≤ K → HalvingEnds test K (record { step = Some r.from; looks = r.looks })
  going-found h = record { least = halved-found test K r.from r.to g.halved d h; count = counted-done test K r.from r.to r.looks g d }

  pub going-none : K < r.from → HalvingEnds test K (record { step = None; looks = r.looks })
  going-none h = record { least = halved_none test K r.from r.to g.halved d h; count = counted-done test K r.from r.to r.looks g d }

-- the test on charges stays once it holds
pub charged-rising : (w : Weights) (s : Springs) → Chargeable s.notch s → Rising (charged_at w s.notch (spring_in s) s.n)
charged-rising w s may j k g t =
    let charges = charges_on s.notch (spring_in s) in
    weighed-stays w (charges j) (charges k) s.n (λ i l. charge-falls s.notch (spring_in s i) (may i l) k j g) t

-- and does not look at loads
pub charged-beside : (w : Weights) (old new : Springs) → Beside old new → charged_at w new.notch (spring_in new) new.n ≡ charged_at w old.notch (spring_in old) old.n
charged-beside w old new b =
    ap {B = ℕ → Bool} (λ (q : ℕ). charged_at w q (spring_in new) new.n) b.notch
    ∙ ap {B = ℕ → Bool} (λ (f : ℕ → Spring). charged_at w old.notch f new.n) (springs-beside old new b)
    ∙ ap {B = ℕ → Bool} (λ (n : ℕ). charged_at w old.notch (spring_in old) n) b.count
