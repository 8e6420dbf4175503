-- One promise for every call: no second answer, looks included; the plain finder's outcome where policy 4 is not asked; and it depends on
-- the first n records only.
-- Assumes nothing.
use Rattle.kinds.specs.Answer.{Answer}
use Rattle.ground.proofs.Kit.{ℕ, ◌≤◌, ◌<◌, true, false, List, ◌≡◌, refl, sym, ◌∙◌, ap₂}
use Rattle.kinds.specs.declared.Task.{Task}
use Rattle.kinds.specs.declared.Settings.{Settings}
use Rattle.kinds.specs.Limits.{most_tasks}
use Rattle.kinds.specs.Policy.{meant, is_first_fit}
use Rattle.kinds.specs.Task.{at}
use Rattle.policy.proofs.Under.{looks-under-same}
use Rattle.admission.proofs.Gated.{answer-same}
use Rattle.outcome.specs.Plan.{outcome, Meets}
use Rattle.outcome.proofs.Outcomes.{no-second-answer, outcome-serves}
use Rattle.quick_finder.specs.declared.Looked.{Looked}
use Rattle.quick_finder.specs.Looked.{looks_after, looks, MeetsLooked}

looked : Answer → ℕ → Looked
looked answer looks = record { answer = answer; looks = looks }

module _ (s : Settings) (rows : List Task) (n : ℕ) (periods processors : List ℕ) where
  pub no-second-look : (r q : Looked) (ps qs ps' qs' : List ℕ)
      → MeetsLooked s rows n periods processors r ps qs → MeetsLooked s rows n periods processors q ps' qs'
      → (r ≡ q) × (ps ≡ ps') × (qs ≡ qs')
  unfolding looked
  no-second-look r q ps qs ps' qs' x y =
      let one = no-second-answer _ r.answer q.answer ps qs ps' qs' x.meets y.meets in
      (ap₂ looked one.0 (x.count ∙ sym y.count), one.1, one.2)

  -- wherever policy 4 is not asked, the quick finder's step, periods, processors and refusals are the plain finder's
  pub as_plain : is_first_fit (meant s.policy) ≡ false → (r : Looked) (ps qs : List ℕ) → MeetsLooked s rows n periods processors r ps qs
      → Meets (outcome true s rows n periods processors) r.answer ps qs
  as_plain f r ps qs x = rw (outcome-serves s rows n periods processors f) x.meets

-- the looks of tables that agree as far as they count
module _ (s : Settings) (xs ys : List Task) (n : ℕ) (same : n ≤ most_tasks → (i : ℕ) → i < n → at xs i ≡ at ys i) where
  pub looks-agree : (room : ℕ) → looks s xs n room ≡ looks s ys n room
  unfolding looks
  looks-agree room = answer-same looks_after (λ r x y. refl) false s xs ys n room _ _ same (λ e. looks-under-same s xs ys n e)
