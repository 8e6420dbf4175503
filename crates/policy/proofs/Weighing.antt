-- The test as the code works it out, and on charges that are written.
-- Assumes nothing.
use Rattle.ground.proofs.Kit.{ℕ, ◌*◌, ◌≤◌, ◌<◌, true, false, ◌≡◌, ◌∙◌, ap, arith, leb, le-leb, lt-leb, leb-true}
use Rattle.ground.specs.Folds.{sum_to, max_to}
use Rattle.ground.proofs.Folds.{sum-le, max_falls, sum-cong, max-cong}
use Rattle.springs.specs.Spring.{charges_on}
use Rattle.springs.specs.Springs.{spring_in}
use Rattle.springs.specs.declared.Springs.{Springs}
use Rattle.springs.specs.Handover.{Chargeable, Workable, StaysLow, Loaded, Summed}
use Rattle.springs.proofs.Shares.{charge-most}
use Rattle.springs.proofs.Columns.{loaded-low, sum-loaded}
use Rattle.kinds.specs.Limits.{scale}
use Rattle.fit.specs.Fit.{load_in}
use Rattle.fit.specs.Handover.{Loads}
use Rattle.policy.specs.declared.Weights.{Weights}
use Rattle.policy.specs.Sides.{left_of}
use Rattle.policy.specs.Handover.{TotalIs}
use Rattle.policy.specs.Weighed.{weighed, charged_at}
use Rattle.policy.proofs.Tests.{test-stays}

pub weighed-worked-out : (w : Weights) (load : ℕ → ℕ) (n sum max : ℕ) → TotalIs load n sum max → leb (left_of w sum max) w.r ≡ weighed w load n
unfolding weighed
weighed-worked-out w load n sum max t = rw (t.added.is, t.max-is)

-- it fails where the sum alone is above the right side, and where the max does not count the sum alone is held to it
module _ (w : Weights) (load : ℕ → ℕ) (n : ℕ) where
  pub weighed-too-much : w.r < sum_to load n → weighed w load n ≡ false
  unfolding weighed
  weighed-too-much h = lt-leb (left_of w (sum_to load n) (max_to load n)) w.r (omega arith)

  pub weighed-sum : w.b ≡ 0 → sum_to load n ≤ w.r → weighed w load n ≡ true
  unfolding weighed
  weighed-sum z h = le-leb (left_of w (sum_to load n) (max_to load n)) w.r (omega (arith, ap (λ (b : ℕ). b * max_to load n) z))

-- the test stays where no load is larger
pub weighed-stays : (w : Weights) (f g : ℕ → ℕ) (n : ℕ) → ((i : ℕ) → i < n → g i ≤ f i) → weighed w f n ≡ true → weighed w g n ≡ true
unfolding weighed
weighed-stays w f g n falls t = le-leb _ _ (test-stays w _ _ _ _ (sum-le _ _ n falls) (max_falls _ _ n falls) (leb-true _ _ t))

-- loads that are written, with their sum
pub summed-loads : (load : ℕ → ℕ) (old new : Springs) (sum : ℕ) → Summed load old new sum → sum ≡ sum_to (load_in new.loads) new.n
summed-loads load old new sum s = rw s.loaded.beside.count (s.sum_is ∙ sum-loaded load old.n old new s.loaded)

-- where every call may be made on springs, their loads are few, and none is above S
pub springs-loads : (s : Springs) → Workable s → Loads s.loads s.n
springs-loads s h = record { few = s.few; most = λ i l. h.low i }

-- loads that are written are few, and none is above S where what is written is not
pub loaded-loads : (load : ℕ → ℕ) (old new : Springs) → ((i : ℕ) → i < old.n → load i ≤ scale) → Loaded load old.n old new → Loads new.loads new.n
loaded-loads load old new most l =
    record {
      few = new.few;
      most = λ i b. let h : i < old.n = omega (arith, l.beside.count) in rw (l.are i h) (most i h);
    }

pub charges-loads : (q k : ℕ) (old new : Springs) → Chargeable q old → Loaded (charges_on q (spring_in old) k) old.n old new → Loads new.loads new.n
charges-loads q k old new w l = loaded-loads _ old new (λ i b. charge-most q (spring_in old i) (w i b) k) l

pub charges-low : (q k : ℕ) (old new : Springs) → Chargeable q old → Loaded (charges_on q (spring_in old) k) old.n old new → StaysLow old new
charges-low q k old new w l = loaded-low _ _ old new l (λ i b. charge-most q (spring_in old i) (w i b) k)

pub charged-weighed : (w : Weights) (k : ℕ) (old new : Springs) → Loaded (charges_on old.notch (spring_in old) k) old.n old new
    → weighed w (load_in new.loads) new.n ≡ charged_at w old.notch (spring_in old) old.n k
unfolding weighed
charged-weighed w k old new l =
    rw (l.beside.count, sum-cong (load_in new.loads) _ old.n l.are, max-cong (load_in new.loads) _ old.n l.are)
