-- One outcome for every call: no second answer meets it, it depends on the first n records only, and where policy 4 is not asked it is
-- the same whether that policy is served or not.
-- Assumes nothing.
use Rattle.kinds.specs.Answer.{Answer, Verdict}
use Rattle.ground.specs.Least.{Step}
use Rattle.ground.proofs.Kit.{ℕ, ◌≤◌, ◌<◌, min, Bool, true, false, List, ◌≡◌, refl, sym, ◌∙◌, ap, arith, length, ne_eqb, Ok, Err}
use Rattle.kinds.specs.declared.Task.{Task}
use Rattle.kinds.specs.declared.Settings.{Settings}
use Rattle.kinds.specs.Limits.{most_tasks}
use Rattle.kinds.specs.Policy.{meant, is_first_fit}
use Rattle.kinds.specs.Refusal.{number_of}
use Rattle.kinds.specs.Task.{at}
use Rattle.kinds.proofs.Answers.{handed-one}
use Rattle.kinds.proofs.Refusals.{refusal-numbered}
use Rattle.share.specs.Table.{periods_at}
use Rattle.share.proofs.Tables.{bad-same}
use Rattle.policy.proofs.Under.{rows_same, loads-same, least-under-same}
use Rattle.admission.specs.Admission.{and_then, judged, gate_of, admission}
use Rattle.admission.proofs.Chain.{all-passed, admission-serves}
use Rattle.outcome.specs.Plan.{processors_at, decided, Outcome, settled, found, outcome, Meets}

-- two answers, with their outputs, that meet one outcome are equal
pub no-second-answer : (o : Outcome) (a b : Answer) (ps qs ps' qs' : List ℕ) → Meets o a ps qs → Meets o b ps' qs' → (a ≡ b) × (ps ≡ ps') × (qs ≡ qs')
no-second-answer o a b ps qs ps' qs' x y =
    (handed-one a b (x.answers ∙ sym y.answers), x.grants ∙ sym y.grants, x.places ∙ sym y.places)

-- any finder's call looks at no record where its gate refuses, and so is settled alike by what it finds in records that agree as far as they count
module _ (n : ℕ) (periods processors : List ℕ) (f g f' g' : ℕ → List ℕ) (a b : Verdict) (x y : Step) where
  pub settled_same : (gate : Verdict) → (gate ≡ (Ok tt) → n ≤ most_tasks)
      → (n ≤ most_tasks → (a ≡ b) × (x ≡ y) × ((k : ℕ) → f k ≡ f' k) × ((k : ℕ) → g k ≡ g' k))
      → settled (decided (and_then gate a) x) f g n periods processors ≡ settled (decided (and_then gate b) y) f' g' n periods processors
  settled_same (Ok _) opens same =
      let e = same (opens refl) in
      rw (e.0, e.1, e.2 (decided b y).value, e.3 (decided b y).value)
  settled_same (Err r) opens same = rw (ne_eqb (number_of r) 0 (λ z. omega (arith, refusal-numbered r)))

-- two tables that agree on the first n records are answered alike; where n is too large, any two are
pub outcome-same : (serves : Bool) (s : Settings) (xs ys : List Task) (n : ℕ) (periods processors : List ℕ)
    → (n ≤ most_tasks → (i : ℕ) → i < n → at xs i ≡ at ys i) → outcome serves s xs n periods processors ≡ outcome serves s ys n periods processors
unfolding outcome found admission
outcome-same serves s xs ys n periods processors same =
    let room = min (length periods) (length processors) in
    settled_same n periods processors _ _ _ _ _ _ _ _ (gate_of serves s n room) (λ e. (all-passed serves s n room e).few)
    (λ few.
    let first = same few in
    let load = loads-same s xs ys n first in (
      ap (λ (bad : ℕ). judged bad n) (bad-same s.swap s.notch xs ys n first),
      least-under-same s xs ys n first,
      λ k. ap (λ (paid : List Task). periods_at s.notch paid n k) (rows_same s xs ys n first),
      λ k. ap (λ (loads : ℕ → ℕ → ℕ). processors_at (meant s.policy) s.m loads n k) load,
    ))

-- where policy 4 is not asked, a finder that serves it and one that does not have one outcome
pub outcome-serves : (s : Settings) (rows : List Task) (n : ℕ) (periods processors : List ℕ) → is_first_fit (meant s.policy) ≡ false
    → outcome true s rows n periods processors ≡ outcome false s rows n periods processors
unfolding outcome found
outcome-serves s rows n periods processors f =
    rw (admission-serves s rows n (min (length periods) (length processors)) f)
