-- A number's text is plain digits whose value is the number, and plain digits are the text of their value: each number has exactly one
-- text, and each text that is one exactly one number.
-- Assumes nothing.
use Rattle.ground.proofs.Kit.{ℕ, zero, suc, ◌+◌, ◌-◌, ◌*◌, ◌/◌, ◌%◌, ◌≤◌, ◌<◌, Bool, true, false, not, List, [], ◌∷◌, ◌++◌, append-nil, append_assoc, ◌≡◌}
use Rattle.ground.proofs.Kit.{refl, sym, ◌∙◌, ap, arith, eqb, length, get_or, ne_eqb}
use lib.ListN.{get_or-append}
use borrow.Author.Tests.{eqb-false}
use Rattle.ground.proofs.Cases.{by_le}
use Rattle.numeral.specs.Decimal.{last_digit, decimal}
use Rattle.numeral.specs.Scan.{is_digit, AllDigits, value_from, plain}
use Rattle.numeral.proofs.Digits.{one-digit, more-digits, one-long, more-long}
use Rattle.numeral.proofs.Scan.{digit-is, is_digit_lem, value_none, value-more, value-then, plain-one, plain_more}

-- one digit more
grow : (v d : ℕ) → 1 ≤ v → is_digit d ≡ true → decimal (10 * v + (d - 48)) ≡ decimal v ++ (d ∷ [])
grow v d h e =
    let b = digit-is d e in
    let q : (10 * v + (d - 48)) / 10 ≡ v = omega arith in
    let r : 48 + (10 * v + (d - 48)) % 10 ≡ d = omega arith in
    more-digits (10 * v + (d - 48)) (omega arith)
    ∙ (ap (λ (x : ℕ). decimal x ++ last_digit (10 * v + (d - 48))) q ∙ ap (λ (x : ℕ). decimal v ++ (x ∷ [])) r)

grown : (v : ℕ) (ds : List ℕ) → 1 ≤ v → AllDigits ds → decimal (value_from v ds) ≡ decimal v ++ ds
grown v [] h f = ap decimal (value_none v) ∙ sym (append-nil (decimal v))
grown v (d ∷ ds) h f =
    ap decimal (value-more v d ds)
    ∙ (grown (10 * v + (d - 48)) ds (omega arith) f.1
    ∙ (ap (λ (x : List ℕ). x ++ ds) (grow v d h f.0) ∙ append_assoc (decimal v) (d ∷ []) ds))

value-first : (d : ℕ) (ds : List ℕ) → value_from 0 (d ∷ ds) ≡ value_from (d - 48) ds
value-first d ds = let e : 10 * 0 + (d - 48) ≡ d - 48 = omega arith in value-more 0 d ds ∙ ap (λ (v : ℕ). value_from v ds) e

-- a digit alone
single : (d : ℕ) → is_digit d ≡ true → decimal (d - 48) ≡ d ∷ []
single d e =
    let b = digit-is d e in
    let r : 48 + (d - 48) % 10 ≡ d = omega arith in
    one-digit (d - 48) (omega arith) ∙ ap (λ (x : ℕ). x ∷ []) r

not-false : (t : Bool) → not t ≡ true → t ≡ false
not-false true q = sym q
not-false false q = refl

above_zero : (d : ℕ) → (d ≡ 48 → ⊥) → 48 ≤ d → 1 ≤ d - 48
above_zero d n h = omega arith

-- plain digits are the text of their value
pub own-text : (ds : List ℕ) → AllDigits ds → plain ds ≡ true → decimal (value_from 0 ds) ≡ ds
unfolding plain
own-text [] f p = absurd (let z : ◌≡◌ {A = ℕ} 0 1 = cc in omega arith)
own-text (d ∷ []) f p = ap decimal (value-first d [] ∙ value_none (d - 48)) ∙ single d f.0
own-text (d ∷ (e ∷ es)) f p =
    let n : d ≡ 48 → ⊥ = eqb-false d 48 (not-false (eqb d 48) p) in
    let h : 1 ≤ d - 48 = above_zero d n (digit-is d f.0).0 in
    ap decimal (value-first d (e ∷ es))
    ∙ (grown (d - 48) (e ∷ es) h f.1 ∙ ap (λ (x : List ℕ). x ++ (e ∷ es)) (single d f.0))

-- what holds of each digit, and of a number where it holds of its tenth, holds of each number
by-tenths : (P : ℕ → Type 0) → ((n : ℕ) → n < 10 → P n) → ((n : ℕ) → 10 ≤ n → P (n / 10) → P n) → (f n : ℕ) → n ≤ f → P n
by-tenths P base step zero n h = base n (omega arith)
by-tenths P base step (suc f) n h =
    let tenth : 10 ≤ n → P (n / 10) = λ l. by-tenths P base step f (n / 10) (omega arith) in
    by_le 10 n (λ l. step n l (tenth l)) (λ l. base n l)

digits-then : (ds : List ℕ) (d : ℕ) → AllDigits ds → is_digit d ≡ true → AllDigits (ds ++ (d ∷ []))
digits-then [] d f e = (e, tt)
digits-then (x ∷ ds) d f e = (f.0, digits-then ds d f.1 e)

last-is : (n : ℕ) → is_digit (48 + n % 10) ≡ true
last-is n = is_digit_lem (48 + n % 10) (omega arith) (omega arith)

pub decimal-digits : (n : ℕ) → AllDigits (decimal n)
decimal-digits n =
    by-tenths (λ (k : ℕ). AllDigits (decimal k))
    (λ k h. rw (one-digit k h) (last-is k, tt))
    (λ k h i. rw (more-digits k h) (digits-then (decimal (k / 10)) (48 + k % 10) i (last-is k)))
    n n (omega arith)

pub decimal-value : (n : ℕ) → value_from 0 (decimal n) ≡ n
decimal-value n =
    by-tenths (λ (k : ℕ). value_from 0 (decimal k) ≡ k)
    (λ k h.
    let e : 48 + k % 10 - 48 ≡ k = omega arith in
    ap (value_from 0) (one-digit k h) ∙ (value-first (48 + k % 10) [] ∙ (value_none (48 + k % 10 - 48) ∙ e)))
    (λ k h i.
    let e : 10 * value_from 0 (decimal (k / 10)) + (48 + k % 10 - 48) ≡ k = omega arith in
    ap (value_from 0) (more-digits k h) ∙ (value-then 0 (decimal (k / 10)) (48 + k % 10) ∙ e))
    n n (omega arith)

-- a text is not empty, and that of a number above 0 has no leading zero
record Leads (n : ℕ) : Type 0 where
  some : 0 < length (decimal n)
  first : 1 ≤ n → 48 < get_or (decimal n) 0 0

leads : (n : ℕ) → Leads n
leads n =
    by-tenths Leads
    (λ k h. record {
      some = let l = one-long k h in omega arith;
      first = λ p. (let e = ap (λ (x : List ℕ). get_or x 0 0) (one-digit k h) in omega arith);
    })
    (λ k h i. record {
      some = let l = more-long k h in omega arith;
      first = λ p.
          (let e : get_or (decimal k) 0 0 ≡ get_or (decimal (k / 10)) 0 0 =
          ap (λ (x : List ℕ). get_or x 0 0) (more-digits k h) ∙ get_or-append (decimal (k / 10)) (last_digit k) 0 0 i.some in
          let f = i.first (omega arith) in
          omega arith);
    })
    n n (omega arith)

pub decimal-plain : (n : ℕ) → plain (decimal n) ≡ true
decimal-plain n =
    by_le 10 n
    (λ h.
    let s = (leads (n / 10)).some in
    let m = more-long n h in
    let f = (leads n).first (omega arith) in
    plain_more (decimal n) (omega arith) ∙ ap not (ne_eqb (get_or (decimal n) 0 0) 48 (λ q. omega arith)))
    (λ h. plain-one (decimal n) (one-long n h))

-- the text of a number: plain digits with its value
pub record IsText (ds : List ℕ) (n : ℕ) : Type 0 where
  pub all_digits : AllDigits ds
  pub is_plain : plain ds ≡ true
  pub value-is : value_from 0 ds ≡ n

-- each number has a text, it has no other, and no text is that of two numbers
pub has-text : (n : ℕ) → IsText (decimal n) n
has-text n = record { all_digits = decimal-digits n; is_plain = decimal-plain n; value-is = decimal-value n }

pub one-text : (ds : List ℕ) (n : ℕ) → IsText ds n → ds ≡ decimal n
one-text ds n t = sym (own-text ds t.all_digits t.is_plain) ∙ ap decimal t.value-is

pub one_number : (m n : ℕ) → decimal m ≡ decimal n → m ≡ n
one_number m n e = sym (decimal-value m) ∙ (ap (value_from 0) e ∙ decimal-value n)
