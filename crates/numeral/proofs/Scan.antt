-- Laws of the scan: a run of digits taken one by one from the left, and the cases of the number at a place.
-- Assumes nothing.
use Rattle.ground.proofs.Kit.{ℕ, Result, Ok, Err, zero, suc, ◌+◌, ◌-◌, ◌*◌, ◌≤◌, ◌<◌, Option, Some, None, true, false, not, ◌++◌, take, List, [], ◌∷◌, ◌≡◌, refl, sym, ◌∙◌, ap, arith, eqb, length, drop, add-one}
use Rattle.ground.proofs.Kit.{get_or, leb, eq-eqb, ne_eqb, le-leb, lt-leb, leb-true, length-take-le}
use native.Mathlib.Numerals.{one-add}
use lib.ListN.{drop_of_length-le}
use lib.Seq.{drop-cons}
use Rattle.ground.specs.Choice.{both}
use Rattle.ground.proofs.Cases.{by_bool, both_true}
use Rattle.std.specs.List.{prefix_len, slice_range}
use Rattle.std.specs.Result.{OkIff, result_ok}
use Rattle.std.proofs.lemmas.Bool.Decides.{nat_tests}
use Rattle.std.proofs.lemmas.Option.{some_pair_parts}
use Rattle.std.proofs.lemmas.Slice.{between_to_end}
use Rattle.std.proofs.lemmas.List.Folds.{length-prefix_len}
use Rattle.std.proofs.lemmas.List.{append-nil, append_assoc, take_more}
use Rattle.numeral.specs.Scan.{most_number, limited, is_digit, AllDigits, digits, value_from, digits_at, value_at, past_digits, plain, number_at, numeral_at, numeral_in}
use Rattle.numeral.specs.Handover.{RunIs}

-- a digit lies from 48 to 57
pub digit-is : (b : ℕ) → is_digit b ≡ true → (48 ≤ b) × (b ≤ 57)
digit-is b e = grind (arith, nat_tests)

pub is_digit_lem : (b : ℕ) → 48 ≤ b → b ≤ 57 → is_digit b ≡ true
is_digit_lem b p q = simp (le-leb 48 b p, le-leb b 57 q)

-- a byte that is not 0 lies within the text
pub within : (s : List ℕ) (i : ℕ) → 0 < get_or s i 0 → i < length s
within [] i h = absurd (omega arith)
within (b ∷ s) zero h = omega arith
within (b ∷ s) (suc i) h = let k = within s i h in omega arith

-- the digits at the front of a text are as many of its bytes as pass the test
pub digits-front : (s : List ℕ) → digits s ≡ take (prefix_len is_digit s) s
unfolding digits
digits-front [] = refl
digits-front (b ∷ s) = by_bool (is_digit b) (λ e. simp (e, one-add) (ap (λ (x : List ℕ). b ∷ x) (digits-front s))) (λ e. simp e)

pub digits-cons : (b : ℕ) (s : List ℕ) → is_digit b ≡ true → digits (b ∷ s) ≡ b ∷ digits s
unfolding digits
digits-cons b s e = simp e

pub digits-stop : (b : ℕ) (s : List ℕ) → is_digit b ≡ false → digits (b ∷ s) ≡ []
unfolding digits
digits-stop b s e = simp e

front_by : (b : ℕ) (s : List ℕ) → AllDigits (digits s) → AllDigits (digits (b ∷ s))
front_by b s f =
    by_bool (is_digit b) (λ e. rw (digits-cons b s e) (e, f)) (λ e. rw (digits-stop b s e) tt)

pub front-digits : (s : List ℕ) → AllDigits (digits s)
unfolding digits
front-digits [] = tt
front-digits (b ∷ s) = front_by b s (front-digits s)

-- no digits stand past the end
pub digits-past : (s : List ℕ) (at : ℕ) → length s ≤ at → digits_at s at ≡ []
unfolding digits
digits-past s at h = ap digits (drop_of_length-le s h)

pub value_none : (v : ℕ) → value_from v [] ≡ v
unfolding value_from
value_none v = refl

pub value-more : (v d : ℕ) (ds : List ℕ) → value_from v (d ∷ ds) ≡ value_from (10 * v + (d - 48)) ds
unfolding value_from
value-more v d ds = refl

pub value-then : (v : ℕ) (ds : List ℕ) (d : ℕ) → value_from v (ds ++ (d ∷ [])) ≡ 10 * value_from v ds + (d - 48)
value-then v [] d =
    value-more v d [] ∙ (value_none (10 * v + (d - 48)) ∙ ap (λ (x : ℕ). 10 * x + (d - 48)) (sym (value_none v)))
value-then v (x ∷ ds) d =
    value-more v x (ds ++ (d ∷ []))
    ∙ (value-then (10 * v + (x - 48)) ds d ∙ ap (λ (k : ℕ). 10 * k + (d - 48)) (sym (value-more v x ds)))

-- the value of the digits before a place and the digit there: holding it down on the way changes nothing of what is held of the whole
module _ (ds : List ℕ) (i v : ℕ) (e : v ≡ limited (value_from 0 (take i ds))) (h : i < length ds) where
  value_next : limited (value_from 0 (take (i + 1) ds)) ≡ limited (10 * v + (get_or ds i 0 - 48))
  value_next =
      let w = ap (value_from 0) (take_more ds i 0 h) ∙ value-then 0 (take i ds) (get_or ds i 0) in
      omega (arith, w)

-- the digits at the front of a text are as many of its bytes as they are
digits-long : (s : List ℕ) → length (digits s) ≡ prefix_len is_digit s
digits-long s = ap length (digits-front s) ∙ length-prefix_len is_digit s

digits-taken : (s : List ℕ) → take (length (digits s)) s ≡ digits s
digits-taken s = ap (λ (n : ℕ). take n s) (digits-long s) ∙ sym (digits-front s)

-- a walk over a text has come to byte i: all before it are digits, and their value is at hand
pub record Going (s : List ℕ) (i v : ℕ) : Type 0 where
  pub within-it : i ≤ length s
  pub front : digits s ≡ take i s ++ digits (drop i s)
  pub value-is : v ≡ limited (value_from 0 (take i s))

pub going-none : (s : List ℕ) → Going s 0 0
going-none s = record { within-it = omega arith; front = refl; value-is = omega (arith, value_none 0) }

module _ (s : List ℕ) (i v : ℕ) (g : Going s i v) where
  -- it ends where no digit follows
  stopped : digits (drop i s) ≡ [] → RunIs s (v, i)
  stopped e =
      let all : digits s ≡ take i s = g.front ∙ (ap (λ (x : List ℕ). take i s ++ x) e ∙ append-nil (take i s)) in
      (g.value-is ∙ ap (λ (x : List ℕ). limited (value_from 0 x)) (sym all), sym (ap length all ∙ length-take-le i s g.within-it), g.within-it)

  pub going-end : i ≡ length s → RunIs s (v, i)
  going-end e = stopped (digits-past s i (omega arith))

  module _ (h : i < length s) where
    pub going-stop : is_digit (get_or s i 0) ≡ false → RunIs s (v, i)
    going-stop f = stopped (ap digits (drop-cons s i 0 h) ∙ digits-stop (get_or s i 0) (drop (suc i) s) f)

    module _ (t : is_digit (get_or s i 0) ≡ true) where
      front-more : digits s ≡ take i s ++ (get_or s i 0 ∷ digits (drop (suc i) s))
      front-more = g.front ∙ ap (λ (x : List ℕ). take i s ++ x) (ap digits (drop-cons s i 0 h) ∙ digits-cons (get_or s i 0) (drop (suc i) s) t)

      pub going_more : (next : ℕ) → next ≡ limited (10 * v + (get_or s i 0 - 48)) → Going s (i + 1) next
      going_more next e =
          record {
            within-it = omega arith;
            front =
                rw (add-one i)
                (front-more
                ∙ (sym (append_assoc (take i s) (get_or s i 0 ∷ []) (digits (drop (suc i) s)))
                ∙ ap (λ (x : List ℕ). x ++ digits (drop (suc i) s)) (sym (rw (add-one i) at (take_more s i 0 h)))));
            value-is = e ∙ sym (value_next s i v g.value-is h);
          }

-- plain digits, by their count
pub plain-none : (ds : List ℕ) → length ds ≡ 0 → plain ds ≡ false
unfolding plain
plain-none [] h = refl
plain-none (d ∷ ds) h = absurd (omega arith)

pub plain-one : (ds : List ℕ) → length ds ≡ 1 → plain ds ≡ true
unfolding plain
plain-one [] h = absurd (omega arith)
plain-one (d ∷ []) h = refl
plain-one (d ∷ (e ∷ ds)) h = absurd (omega arith)

pub plain_more : (ds : List ℕ) → 1 < length ds → plain ds ≡ not (eqb (get_or ds 0 0) 48)
unfolding plain
plain_more [] h = absurd (omega arith)
plain_more (d ∷ []) h = absurd (omega arith)
plain_more (d ∷ (e ∷ ds)) h = refl

-- a value that is held down is a number where 32 bits hold it
tried-none : {E : Type 0} (v : ℕ) (tried : Result ℕ E) → OkIff tried (v < 4294967296) v → result_ok tried ≡ None → most_number < v
tried-none v (Ok y) t e = absurd (let z : ◌≡◌ {A = ℕ} 0 1 = cc in omega arith)
tried-none v (Err r) t e = omega (arith, t)

tried_some : {E : Type 0} (v : ℕ) (tried : Result ℕ E) → OkIff tried (v < 4294967296) v → (x : ℕ) → result_ok tried ≡ Some x → (x ≡ v) × (v ≤ most_number)
tried_some v (Ok y) t x e = let z : y ≡ x = cc in (omega (arith, z, t.1), omega (arith, t.0))
tried_some v (Err r) t x e = absurd (let z : ◌≡◌ {A = ℕ} 0 1 = cc in omega arith)

-- the cases of the number at a place, by the bytes from there on and how many of them are digits
pub no-digits : (s : List ℕ) (at : ℕ) → length s < at → number_at s at ≡ None
unfolding number_at
no-digits s at h = simp (digits-past s at (omega arith), plain-none [] refl)

module _ (s rest : List ℕ) (at : ℕ) (r : rest ≡ slice_range s at (length s)) where
  rest-is : rest ≡ drop at s
  rest-is = r ∙ between_to_end s at (length s) (omega arith)

  module _ (held : ℕ) (v : held ≡ limited (value_from 0 (digits rest))) {E : Type 0} (tried : Result ℕ E) (t : OkIff tried (held < 4294967296) held) where
    value-is : limited (value_at s at) ≡ held
    value-is = ap (λ (x : List ℕ). limited (value_from 0 (digits x))) (sym rest-is) ∙ sym v

    pub too_large : result_ok tried ≡ None → number_at s at ≡ None
    unfolding number_at
    too_large e =
        let l = tried-none held tried t e in
        let f : most_number < value_at s at = omega (arith, value-is) in
        by_bool (plain (digits_at s at)) (λ p. simp (p, lt-leb (value_at s at) most_number f)) (λ p. simp p)

  module _ (count : ℕ) (k : count ≡ length (digits rest)) where
    their-digits : take count rest ≡ digits_at s at
    their-digits = ap (λ (n : ℕ). take n rest) k ∙ (digits-taken rest ∙ ap digits rest-is)

    pub not_plain : plain (take count rest) ≡ false → number_at s at ≡ None
    unfolding number_at
    not_plain p = simp (ap plain (sym their-digits) ∙ p)

    pub number_read : plain (take count rest) ≡ true → (held : ℕ) → held ≡ limited (value_from 0 (digits rest))
        → {E : Type 0} → (tried : Result ℕ E) → OkIff tried (held < 4294967296) held → (x : ℕ) → result_ok tried ≡ Some x
        → number_at s at ≡ Some (x, at + count)
    unfolding number_at
    number_read p held v tried t x e =
        let their_plain : plain (digits_at s at) ≡ true = ap plain (sym their-digits) ∙ p in
        let q = tried_some held tried t x e in
        let w = value-is held v tried t in
        let is : value_at s at ≡ x = omega (arith, q.0, q.1, w) in
        let l : length (digits_at s at) ≡ count = ap (λ (x : List ℕ). length (digits x)) (sym rest-is) ∙ sym k in
        simp (their_plain, is, le-leb x most_number (omega (arith, q.0, q.1)), l)

-- a number that is there: plain digits, with a value that is not too large
pub record Number (s : List ℕ) (at v next : ℕ) : Type 0 where
  pub digits-plain : plain (digits_at s at) ≡ true
  pub small : v ≤ most_number
  pub value-is : value_at s at ≡ v
  pub next-is : past_digits s at ≡ next

pub number-there : (s : List ℕ) (at v next : ℕ) → Number s at v next → number_at s at ≡ Some (v, next)
unfolding number_at
number-there s at v next x = rw (x.digits-plain, x.value-is, x.next-is, le-leb v most_number x.small)

pub number-got : (s : List ℕ) (at v next : ℕ) → number_at s at ≡ Some (v, next) → Number s at v next
unfolding number_at
number-got s at v next e = by_bool (both (plain (digits_at s at)) (leb (value_at s at) most_number)) (λ t. there t (rw t at e)) (λ f. never (rw f at e))
  where
    never : ◌≡◌ {A = Option (ℕ × ℕ)} None (Some (v, next)) → Number s at v next
    never w = absurd (let t : ◌≡◌ {A = ℕ} 0 1 = cc in omega arith)

    there : both (plain (digits_at s at)) (leb (value_at s at) most_number) ≡ true → ◌≡◌ {A = Option (ℕ × ℕ)} (Some (value_at s at, past_digits s at)) (Some (v, next)) → Number s at v next
    there t w =
        let b = both_true (plain (digits_at s at)) (leb (value_at s at) most_number) t in
        let p = some_pair_parts (value_at s at) v (past_digits s at) next w in
        record { digits-plain = b.0; small = omega (arith, p.0, leb-true (value_at s at) most_number b.1); value-is = p.0; next-is = p.1 }

-- what follows a number
module _ (s : List ℕ) (at v next : ℕ) (e : number_at s at ≡ Some (v, next)) (end : ℕ) where
  pub other-end : (get_or s next 0 ≡ end → ⊥) → numeral_at s at end ≡ None
  unfolding numeral_at
  other-end n = simp (e, ne_eqb (get_or s next 0) end n)

  pub whole : get_or s next 0 ≡ end → numeral_at s at end ≡ Some (v, next + 1)
  unfolding numeral_at
  whole n = simp (e, eq-eqb (get_or s next 0) end n)

pub no_number : (s : List ℕ) (at end : ℕ) → number_at s at ≡ None → numeral_at s at end ≡ None
unfolding numeral_at
no_number s at end e = rw e

-- or that nothing does
module _ (s : List ℕ) where
  pub in-none : number_at s 0 ≡ None → numeral_in s ≡ None
  unfolding numeral_in
  in-none e = rw e

  module _ (v next : ℕ) (e : number_at s 0 ≡ Some (v, next)) where
    pub in-longer : (next ≡ length s → ⊥) → numeral_in s ≡ None
    unfolding numeral_in
    in-longer n = simp (e, ne_eqb next (length s) n)

    pub in_whole : next ≡ length s → numeral_in s ≡ Some (v, next)
    unfolding numeral_in
    in_whole n = simp (e, eq-eqb next (length s) n)
