-- What is handed back tells which answer it was.
-- Assumes nothing.
use Rattle.ground.proofs.Kit.{ℕ, ◌≡◌, refl, sym, ◌∙◌, ap, arith, Ok, Err}
use lib.IntN.{ℤ}
use Rattle.kinds.specs.declared.Refusal.{Refusal}
use Rattle.kinds.specs.Answer.{Handed, accepted, refused, handed, handed_margin, handed_with, handed_verdict, handed_count, Answer, Margin, Verdict, Counted}
use Rattle.kinds.proofs.Refusals.{refusal-one, refusal-numbered}

-- an acceptance is no refusal
pub not-refused : {A : Type 0} {B : Type 0} (v w : A) (r : Refusal) → accepted v ≡ refused w r → B
not-refused {A} v w r e =
    absurd (omega (arith, refusal-numbered r, ap (λ (h : Handed A). h.number) e))

pub refused-one : {A : Type 0} (v : A) (r q : Refusal) → refused v r ≡ refused v q → r ≡ q
refused-one {A} v r q e =
    refusal-one r q (ap (λ (h : Handed A). h.number) e) (ap (λ (h : Handed A). h.place) e)

pub handed-one : (x y : Answer) → handed x ≡ handed y → x ≡ y
handed-one (Ok j) (Ok k) e = ap Ok (ap (λ (h : Handed ℕ). h.value) e)
handed-one (Ok j) (Err r) e = not-refused j 0 r e
handed-one (Err r) (Ok k) e = not-refused k 0 r (sym e)
handed-one (Err r) (Err q) e = ap Err (refused-one 0 r q e)

pub margin-one : (x y : Margin) → handed_margin x ≡ handed_margin y → x ≡ y
margin-one (Ok j) (Ok k) e = ap Ok (ap (λ (h : Handed ℤ). h.value) e)
margin-one (Ok j) (Err r) e = not-refused j _ r e
margin-one (Err r) (Ok k) e = not-refused k _ r (sym e)
margin-one (Err r) (Err q) e = ap Err (refused-one _ r q e)

pub count-one : (x y : Counted) → handed_count x ≡ handed_count y → x ≡ y
count-one (Ok m) (Ok n) e = ap Ok (ap (λ (h : Handed ℕ). h.value) e)
count-one (Ok m) (Err q) e = not-refused m 0 q e
count-one (Err r) (Ok n) e = not-refused n 0 r (sym e)
count-one (Err r) (Err q) e = ap Err (refused-one 0 r q e)

-- a verdict, and the value beside it
pub with_value : {A : Type 0} (v : Verdict) (x : A) → (handed_with v x).value ≡ x
with_value (Ok _) x = refl
with_value (Err r) x = refl

pub with-one : {A : Type 0} (v w : Verdict) (x y : A) → handed_with v x ≡ handed_with w y → (v ≡ w) × (x ≡ y)
with-one {A} v w x y e = (same v w e, sym (with_value v x) ∙ (ap (λ (h : Handed A). h.value) e ∙ with_value w y))
  where
    same : (v w : Verdict) → handed_with v x ≡ handed_with w y → v ≡ w
    same (Ok _) (Ok _) e = refl
    same (Ok _) (Err q) e = not-refused x y q e
    same (Err r) (Ok _) e = not-refused y x r (sym e)
    same (Err r) (Err q) e = ap Err (refusal-one r q (ap (λ (h : Handed A). h.number) e) (ap (λ (h : Handed A). h.place) e))

pub verdict-one : (v w : Verdict) → handed_verdict v ≡ handed_verdict w → v ≡ w
verdict-one v w e = (with-one v w (tt {0}) (tt {0}) e).0
