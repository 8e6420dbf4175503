-- One margin for every call: no second answer is handed back, and it depends on the first n records only.
-- Assumes nothing.
use Rattle.ground.proofs.Kit.{ℕ, ◌≤◌, ◌<◌, false, List, ◌≡◌, refl, sym, ◌∙◌}
use Rattle.kinds.specs.declared.Task.{Task}
use Rattle.kinds.specs.declared.Settings.{Settings}
use Rattle.kinds.specs.Answer.{handed_margin, Margin}
use Rattle.kinds.specs.Limits.{most_tasks}
use Rattle.kinds.specs.Task.{at}
use Rattle.kinds.proofs.Answers.{margin-one}
use Rattle.policy.proofs.Under.{margin-under-same}
use Rattle.admission.proofs.Gated.{answer-same}
use Rattle.margin.specs.Margin.{reported, margin_handed}

pub no-second-margin : (s : Settings) (rows : List Task) (n k : ℕ) (x y : Margin)
    → handed_margin x ≡ margin_handed s rows n k → handed_margin y ≡ margin_handed s rows n k → x ≡ y
no-second-margin s rows n k x y p q = margin-one x y (p ∙ sym q)

pub margin-handed-same : (s : Settings) (xs ys : List Task) (n k : ℕ) → (n ≤ most_tasks → (i : ℕ) → i < n → at xs i ≡ at ys i)
    → margin_handed s xs n k ≡ margin_handed s ys n k
unfolding margin_handed
margin-handed-same s xs ys n k same =
    answer-same reported (λ r x y. refl) false s xs ys n n _ _ same (λ e. margin-under-same s xs ys n e k)
