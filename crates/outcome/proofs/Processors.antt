-- The processors of a plan as the code works them out: those of a trial that placed every task, or zeros.
-- Assumes nothing.
use Rattle.ground.proofs.Kit.{ℕ, ◌+◌, ◌≤◌, ◌<◌, true, false, ◌++◌, ◌≡◌, sym, ◌∙◌, ap, arith, get_or, drop, replicate, get_or-replicate, eqb-true}
use Rattle.ground.specs.Choice.{pick}
use Rattle.ground.specs.Folds.{list_to}
use Rattle.ground.proofs.Buffer.{list_at, list-cong}
use Rattle.kinds.specs.declared.Policy.{Policy}
use Rattle.kinds.specs.Limits.{most_tasks}
use Rattle.kinds.specs.Policy.{is_first_fit}
use Rattle.fit.specs.declared.Fit.{Fit}
use Rattle.fit.specs.Fit.{place_at, stuck_at, fits, places_to}
use Rattle.fit.specs.Handover.{FitIs}
use Rattle.fit.proofs.Placing.{place_same}
use Rattle.policy.specs.Passing.{passes}
use Rattle.policy.proofs.Tests.{first-fit-passes}
use Rattle.outcome.specs.Plan.{processor_on}

module _ (p : Policy) (m : ℕ) (load : ℕ → ℕ) (n : ℕ) where
  pub trial-processors : (trial : Fit) → is_first_fit p ≡ true → passes p m load n ≡ true → FitIs m load n trial
      → list_to (λ i. get_or trial.processors i 0) n ≡ list_to (processor_on p m load) n
  unfolding fits places_to
  trial-processors trial first passing f =
      let all : stuck_at m load n ≡ n = eqb-true _ _ (sym (first-fit-passes p m load n first) ∙ passing) in
      let e : trial.processors ≡ list_to (λ i. place_at m load i + 1) n ++ drop n (replicate most_tasks 0) = rw all at f.places in
      list-cong (λ i. get_or trial.processors i 0) (processor_on p m load) n
      (λ i l. rw (first, e) (list_at 0 (λ i. place_at m load i + 1) n i (drop n (replicate most_tasks 0)) l))

  pub any-processors : n ≤ most_tasks → is_first_fit p ≡ false → list_to (λ i. get_or (replicate most_tasks 0) i 0) n ≡ list_to (processor_on p m load) n
  any-processors few other =
      list-cong (λ i. get_or (replicate most_tasks 0) i 0) (processor_on p m load) n
      (λ i l. rw other (get_or-replicate {A = ℕ} most_tasks i 0 0 (omega arith)))

-- processors depend on the loads of the first n tasks only
module _ (p : Policy) (m : ℕ) (f g : ℕ → ℕ) (n : ℕ) (same : (i : ℕ) → i < n → f i ≡ g i) where
  pub processors-same : list_to (processor_on p m f) n ≡ list_to (processor_on p m g) n
  processors-same =
      list-cong (processor_on p m f) (processor_on p m g) n (λ i l. ap (λ (x : ℕ). pick (is_first_fit p) (x + 1) 0) (place_same m f g n same i l))
