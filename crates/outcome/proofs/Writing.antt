-- What an answer leaves in the two lent outputs.
-- Assumes nothing.
use Rattle.ground.proofs.Kit.{ℕ, true, false, List, ◌≡◌, refl, sym, ◌∙◌, ap, arith, ne_eqb, Ok, Err}
use Rattle.ground.proofs.Cases.{by_bool, true-false}
use Rattle.kinds.specs.Answer.{handed, is_accepted, after, Answer}
use Rattle.kinds.specs.Refusal.{number_of}
use Rattle.kinds.proofs.Refusals.{refusal-numbered}

-- a refused call writes nothing
pub written-kept : (a : Answer) (front : List ℕ) (n : ℕ) (old : List ℕ) → is_accepted a ≡ false → after (handed a) front n old ≡ old
written-kept (Ok k) front n old e = true-false refl e
written-kept (Err r) front n old e = rw (ne_eqb (number_of r) 0 (λ z. omega (arith, refusal-numbered r)))

-- so what stands there depends on the front of an acceptance only
pub written_same : (a : Answer) (f g : List ℕ) (n : ℕ) (old : List ℕ) → (is_accepted a ≡ true → f ≡ g) → after (handed a) f n old ≡ after (handed a) g n old
written_same a f g n old h =
    by_bool (is_accepted a)
    (λ t. ap (λ (l : List ℕ). after (handed a) l n old) (h t))
    (λ e. written-kept a f n old e ∙ sym (written-kept a g n old e))
