-- The scanner takes exactly the texts of numbers: what it reads stands there as the number's text (`numeral-got`), and a number's text is
-- read as that number (`numeral-back`).
-- Assumes nothing.
use Rattle.ground.proofs.Kit.{ℕ, Option, Some, None, suc, ◌+◌, ◌≤◌, ◌<◌, false, List, [], ◌∷◌, ◌++◌, append-nil, ◌≡◌, refl, sym, ◌∙◌, ap, add-one, arith, eqb, length}
use Rattle.ground.proofs.Kit.{get_or, drop, eqb-true}
use lib.ListN.{drop_of_length-le}
use lib.Seq.{drop-cons, drop-drop, get_or-drop, get_or-append_seam, drop-append-add}
use borrow.Author.Tests.{eqb-false}
use Rattle.std.proofs.lemmas.Option.{some_pair_parts}
use Rattle.ground.proofs.Cases.{by_bool}
use Rattle.numeral.specs.Decimal.{decimal}
use Rattle.numeral.specs.Scan.{most_number, is_digit, AllDigits, digits, digits_at, value_from, value_at, past_digits, plain, number_at, numeral_at, numeral_in}
use Rattle.numeral.proofs.Scan.{within, digits-cons, digits-stop, front-digits, Number, number-there, number-got, no_number, other-end, whole, in-none, in-longer, in_whole}
use Rattle.numeral.proofs.OneText.{own-text, decimal-digits, decimal-plain, decimal-value}

split_by : (b : ℕ) (s : List ℕ) → s ≡ digits s ++ drop (length (digits s)) s → b ∷ s ≡ digits (b ∷ s) ++ drop (length (digits (b ∷ s))) (b ∷ s)
unfolding digits
split_by b s h = by_bool (is_digit b) (λ e. simp e (ap (λ (x : List ℕ). b ∷ x) h)) (λ e. simp e)

-- a text is its digits and what follows them
digits-then : (s : List ℕ) → s ≡ digits s ++ drop (length (digits s)) s
unfolding digits
digits-then [] = refl
digits-then (b ∷ s) = split_by b s (digits-then s)

-- digits before another byte are the digits at the front
digits_of : (ds : List ℕ) (b : ℕ) (r : List ℕ) → AllDigits ds → is_digit b ≡ false → digits (ds ++ (b ∷ r)) ≡ ds
digits_of [] b r f e = digits-stop b r e
digits_of (d ∷ ds) b r f e =
    digits-cons d (ds ++ (b ∷ r)) f.0 ∙ ap (λ (x : List ℕ). d ∷ x) (digits_of ds b r f.1 e)

-- a number that was read: its text stands there, then the byte that ends it, then the rest
pub record Got (s : List ℕ) (at end v next : ℕ) : Type 0 where
  pub small : v ≤ most_number
  pub text : drop at s ≡ decimal v ++ (end ∷ drop next s)
  pub on : at < next
  pub inside : next ≤ length s

module _ (s : List ℕ) (at end : ℕ) (z : 0 < end) where
  there : (v next : ℕ) → Number s at v next → get_or s next 0 ≡ end → Got s at end v (next + 1)
  there v next x e =
      let h : next < length s = within s next (omega arith) in
      let f : drop next s ≡ end ∷ drop (next + 1) s =
      drop-cons s next 0 h ∙ (ap (λ (x : ℕ). x ∷ drop (suc next) s) e ∙ ap (λ (k : ℕ). end ∷ drop k s) (sym (add-one next))) in
      let own : digits_at s at ≡ decimal v = sym (own-text (digits_at s at) (front-digits (drop at s)) x.digits-plain) ∙ ap decimal x.value-is in
      record {
        small = x.small;
        text =
            digits-then (drop at s)
            ∙ (ap (λ (x : List ℕ). digits_at s at ++ x) (drop-drop (length (digits_at s at)) at s ∙ (ap (λ (k : ℕ). drop k s) x.next-is ∙ f))
            ∙ ap (λ (x : List ℕ). x ++ (end ∷ drop (next + 1) s)) own);
        on = omega (arith, x.next-is);
        inside = omega arith;
      }

  pub numeral-got : (v next : ℕ) → numeral_at s at end ≡ Some (v, next) → Got s at end v next
  numeral-got v next k = by (number_at s at) refl
    where
      never : numeral_at s at end ≡ None → Got s at end v next
      never w = absurd (let t : ◌≡◌ {A = ℕ} 0 1 = cc in omega arith)

      by : (f : Option (ℕ × ℕ)) → number_at s at ≡ f → Got s at end v next
      by None e = never (no_number s at end e)
      by (Some (u, past)) e =
          by_bool (eqb (get_or s past 0) end)
          (λ t.
          let w = whole s at u past e end (eqb-true _ _ t) in
          let x = some_pair_parts u v (past + 1) next (sym w ∙ k) in
          rw (← x.0, ← x.1) (there u past (number-got s at u past e) (eqb-true _ _ t)))
          (λ t. never (other-end s at u past e end (eqb-false _ _ t)))

-- a number's text, and the byte that ends it, are read as that number
module _ (s : List ℕ) (at end v : ℕ) (rest : List ℕ) (n : is_digit end ≡ false) (h : v ≤ most_number) (t : drop at s ≡ decimal v ++ (end ∷ rest)) where
  its-digits : digits_at s at ≡ decimal v
  its-digits = ap digits t ∙ digits_of (decimal v) end rest (decimal-digits v) n

  its-end : get_or s (past_digits s at) 0 ≡ end
  its-end =
      sym (get_or-drop at s (length (digits_at s at)) 0)
      ∙ (ap (λ (x : List ℕ). get_or x (length (digits_at s at)) 0) t
      ∙ (ap (λ (x : List ℕ). get_or (decimal v ++ (end ∷ rest)) (length x) 0) its-digits
      ∙ get_or-append_seam (decimal v) end rest 0))

  its-value : value_at s at ≡ v
  its-value = ap (value_from 0) its-digits ∙ decimal-value v

  pub numeral-back : numeral_at s at end ≡ Some (v, at + length (decimal v) + 1)
  numeral-back =
      let past : past_digits s at ≡ at + length (decimal v) = ap (λ (l : List ℕ). at + length l) its-digits in
      let there : Number s at v (at + length (decimal v)) = record { digits-plain = ap plain its-digits ∙ decimal-plain v; small = h; value-is = its-value; next-is = past } in
      whole s at v (at + length (decimal v)) (number-there s at v (at + length (decimal v)) there) end (ap (λ (k : ℕ). get_or s k 0) (sym past) ∙ its-end)

  pub rest_back : drop (at + length (decimal v) + 1) s ≡ rest
  rest_back =
      let e : at + (length (decimal v) + 1) ≡ at + length (decimal v) + 1 = omega arith in
      ap (λ (k : ℕ). drop k s) (sym e)
      ∙ (sym (drop-drop (length (decimal v) + 1) at s)
      ∙ (ap (drop (length (decimal v) + 1)) t ∙ drop-append-add (decimal v) (end ∷ rest) 1))

-- a whole text that is read is the number's text, and a number's text is read as that number
pub whole-got : (s : List ℕ) (v next : ℕ) → numeral_in s ≡ Some (v, next) → (v ≤ most_number) × (s ≡ decimal v)
whole-got s v next k = by (number_at s 0) refl
  where
    never : {B : Type 0} → numeral_in s ≡ None → B
    never w = absurd (let t : ◌≡◌ {A = ℕ} 0 1 = cc in omega arith)

    by : (f : Option (ℕ × ℕ)) → number_at s 0 ≡ f → (v ≤ most_number) × (s ≡ decimal v)
    by None e = never (in-none s e)
    by (Some (u, past)) e =
        by_bool (eqb past (length s))
        (λ t.
        let x = number-got s 0 u past e in
        let w = in_whole s u past e (eqb-true _ _ t) in
        let same = (some_pair_parts u v past next (sym w ∙ k)).0 in
        let l : length (digits s) ≡ length s = (let z = x.next-is in let y : past ≡ length s = eqb-true past (length s) t in omega arith) in
        let none : drop (length (digits s)) s ≡ [] = drop_of_length-le s {i = length (digits s)} (omega arith) in
        let all : digits s ≡ s = sym (digits-then s ∙ (ap (λ (r : List ℕ). digits s ++ r) none ∙ append-nil (digits s))) in
        (rw (← same) x.small, sym all ∙ (sym (own-text (digits s) (front-digits s) x.digits-plain) ∙ ap decimal (x.value-is ∙ same))))
        (λ t. never (in-longer s u past e (eqb-false _ _ t)))

all_of : (ds : List ℕ) → AllDigits ds → digits ds ≡ ds
unfolding digits
all_of [] f = refl
all_of (d ∷ ds) f = digits-cons d ds f.0 ∙ ap (λ (x : List ℕ). d ∷ x) (all_of ds f.1)

pub whole_back : (v : ℕ) → v ≤ most_number → numeral_in (decimal v) ≡ Some (v, length (decimal v))
whole_back v h =
    let d = all_of (decimal v) (decimal-digits v) in
    let value : value_at (decimal v) 0 ≡ v = ap (value_from 0) d ∙ decimal-value v in
    let past : past_digits (decimal v) 0 ≡ length (decimal v) = (let l : length (digits (decimal v)) ≡ length (decimal v) = ap length d in omega arith) in
    let there : Number (decimal v) 0 v (length (decimal v)) = record { digits-plain = ap plain d ∙ decimal-plain v; small = h; value-is = value; next-is = past } in
    in_whole (decimal v) v (length (decimal v)) (number-there (decimal v) 0 v (length (decimal v)) there) refl
