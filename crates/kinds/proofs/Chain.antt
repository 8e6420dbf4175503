-- A refusal that comes first is handed back, and where none does, the call goes on; the other way, an acceptance has passed both.
-- Assumes nothing.
use Rattle.ground.proofs.Kit.{Bool, true, false, ◌≡◌, refl, sym, ap, arith, ne_eqb}
use Rattle.ground.proofs.Cases.{by-eq}
use Rattle.kinds.specs.declared.Refusal.{Refusal}
use Rattle.kinds.specs.Refusal.{number_of}
use Rattle.kinds.specs.Answer.{Handed, accepted, refused, demanded, unrefused}
use Rattle.kinds.proofs.Refusals.{refusal-numbered}
use Rattle.kinds.proofs.Answers.{not-refused}

module _ {A B : Type 0} (nothing : B) (h : Handed A) (rest : A → Handed B) where
  pub comes-first : (v : A) (q : Refusal) → h ≡ refused v q → refused nothing q ≡ unrefused nothing h rest
  comes-first v q e = rw (e, ne_eqb (number_of q) 0 (λ z. omega (arith, refusal-numbered q)))

  pub goes_on : (v : A) → h ≡ accepted v → rest v ≡ unrefused nothing h rest
  goes_on v e = rw e

  -- an acceptance of the whole
  pub both-accept : (v : B) → unrefused nothing h rest ≡ accepted v → (h.number ≡ 0) × (rest h.value ≡ accepted v)
  both-accept v e =
      by-eq h.number 0
      (λ z. (z, rw z at e))
      (λ z. absurd (z (ap (λ (n : Handed B). n.number) (rw (ne_eqb h.number 0 z) at e))))

-- where something is demanded and the answer is an acceptance, the test held
pub judged-passed : {A : Type 0} {x : A} (nothing : A) (test : Bool) (refusal : Refusal) (rest : Handed A)
    → demanded nothing test refusal rest ≡ accepted x → (test ≡ true) × (rest ≡ accepted x)
judged-passed nothing true refusal rest e = (refl, e)
judged-passed {x = x} nothing false refusal rest e = not-refused x nothing refusal (sym e)
