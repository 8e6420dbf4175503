-- What a call hands back of its admission and of its records depends on the first n records only, and where its gate refuses on none.
-- Assumes nothing.
use Rattle.kinds.specs.Answer.{Verdict}
use Rattle.ground.proofs.Kit.{ℕ, ◌≤◌, ◌<◌, Bool, List, ◌≡◌, refl, ap, ap₂, Ok, Err}
use Rattle.kinds.specs.declared.Task.{Task}
use Rattle.kinds.specs.declared.Settings.{Settings}
use Rattle.kinds.specs.declared.Refusal.{Refusal}
use Rattle.kinds.specs.Limits.{most_tasks}
use Rattle.kinds.specs.Task.{at}
use Rattle.share.proofs.Tables.{bad-same}
use Rattle.admission.specs.Admission.{and_then, judged, gate_of, admission}
use Rattle.admission.proofs.Chain.{all-passed}

-- an answer to a verdict and something else, of which a refusal does not tell
module _ {X Y : Type 0} (answer : Verdict → X → Y) (untold : (r : Refusal) (x y : X) → answer (Err r) x ≡ answer (Err r) y) where
  -- over any gate that lets no more than the most tasks through
  pub gated-same : (n : ℕ) (gate : Verdict) → (gate ≡ (Ok tt) → n ≤ most_tasks) → (a b : Verdict) (x y : X)
      → (n ≤ most_tasks → (a ≡ b) × (x ≡ y)) → answer (and_then gate a) x ≡ answer (and_then gate b) y
  gated-same n (Ok _) opens a b x y same = let e = same (opens refl) in ap₂ answer e.0 e.1
  gated-same n (Err r) opens a b x y same = untold r x y

  -- and over the one admission, of tables that agree as far as they count
  pub answer-same : (serves : Bool) (s : Settings) (xs ys : List Task) (n room : ℕ) (x y : X)
      → (n ≤ most_tasks → (i : ℕ) → i < n → at xs i ≡ at ys i) → (((i : ℕ) → i < n → at xs i ≡ at ys i) → x ≡ y)
      → answer (admission serves s xs n room) x ≡ answer (admission serves s ys n room) y
  unfolding admission
  answer-same serves s xs ys n room x y same told =
      gated-same n (gate_of serves s n room) (λ e. (all-passed serves s n room e).few) _ _ x y
      (λ few. (ap (λ (bad : ℕ). judged bad n) (bad-same s.swap s.notch xs ys n (same few)), told (same few)))
