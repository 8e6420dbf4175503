-- A chain gives exactly one answer: that of the first check whose sentence holds, or an acceptance; `exactly` is what each call's own law cites.
-- Assumes nothing.
use Rattle.ground.proofs.Kit.{ℕ, zero, suc, ◌≤◌, ◌<◌, false, not, List, [], ◌∷◌, ◌++◌, ◌≡◌, refl, sym, ◌∙◌, ap, arith, leb, ltb, length, le-leb, lt-leb, Ok, Err}
use Rattle.ground.proofs.Kit.{lt-ltb, le-ltb}
use mathlib.Core.List.Memᴰ
use mathlib.Core.List.{Memᴰ}
use Rattle.ground.proofs.Cases.{by_bool, by_le, by-eq, true-false}
use Rattle.kinds.specs.declared.Refusal.{Refusal}
use Rattle.kinds.specs.Refusal.{number_of}
use Rattle.kinds.specs.Answer.{Handed, accepted, refused, handed_verdict, Verdict}
use Rattle.kinds.specs.Chain.{Check, first_by, first_of, handed_by, check_at, GivenAt, NoneHolds, Exactly, numbers_given}
use Rattle.kinds.proofs.Refusals.{refusal-numbered}

-- a chain whose first sentence does not hold goes on with the rest
module _ (c : Check) (rest : List Check) (fails : c.sentence ≡ false) where
  none_more : NoneHolds rest → NoneHolds (c ∷ rest)
  none_more h zero l = fails
  none_more h (suc i) l = h i (omega arith)

  given-later : (i : ℕ) → GivenAt rest i → GivenAt (c ∷ rest) (suc i)
  given-later i g = record { there = omega (arith, g.there); holds = g.holds; none-earlier = earlier }
    where
      earlier : (j : ℕ) → j < suc i → (check_at (c ∷ rest) j).sentence ≡ false
      earlier zero l = fails
      earlier (suc j) l = g.none-earlier j (omega arith)

-- either no sentence of a chain holds, or one of its checks is given
pub by_chain : {X : Type 0} (chain : List Check) → (NoneHolds chain → X) → ((i : ℕ) → GivenAt chain i → X) → X
by_chain [] f g = f (λ i l. absurd (omega arith))
by_chain (c ∷ rest) f g =
    by_bool c.sentence
    (λ t. g 0 (record { there = omega arith; holds = t; none-earlier = λ j l. absurd (omega arith) }))
    (λ t. by_chain rest (λ h. f (none_more c rest t h)) (λ i x. g (suc i) (given-later c rest t i x)))

-- and no two are
pub given-once : (chain : List Check) (i j : ℕ) → GivenAt chain i → GivenAt chain j → i ≡ j
given-once chain i j g h =
    by_le i j
    (λ a. by_le j i (λ b. omega arith) (λ b. true-false g.holds (h.none-earlier i b)))
    (λ a. true-false h.holds (g.none-earlier j a))

-- where no sentence holds the answer is the acceptance, and where a check is given its refusal
module _ {A : Type 0} (refuse : Refusal → A) (accept : A) where
  pub none_first : (chain : List Check) → NoneHolds chain → first_by refuse accept chain ≡ accept
  unfolding first_by
  none_first [] h = refl
  none_first (c ∷ rest) h = rw (h 0 (omega arith)) (none_first rest (λ i l. h (suc i) (omega arith)))

  pub given-first : (chain : List Check) (i : ℕ) → GivenAt chain i → first_by refuse accept chain ≡ refuse (check_at chain i).refusal
  unfolding first_by
  given-first [] i g = absurd (omega (arith, g.there))
  given-first (c ∷ rest) zero g = rw g.holds
  given-first (c ∷ rest) (suc i) g =
      rw (g.none-earlier 0 (omega arith))
      (given-first rest i
      (record { there = omega (arith, g.there); holds = g.holds; none-earlier = λ j l. g.none-earlier (suc j) (omega arith) }))

-- a call whose answer is a chain's: every number is "given exactly when" its sentence holds and that of no earlier one does
module _ {A : Type 0} (chain : List Check) (nothing value : A) (h : Handed A) (is : h ≡ handed_by nothing value chain) where
  where-none : NoneHolds chain → h ≡ accepted value
  where-none none = is ∙ none_first (refused nothing) (accepted value) chain none

  where-given : (i : ℕ) → GivenAt chain i → h ≡ refused nothing (check_at chain i).refusal
  where-given i g = is ∙ given-first (refused nothing) (accepted value) chain i g

  number-of : (i : ℕ) → GivenAt chain i → h.number ≡ number_of (check_at chain i).refusal
  number-of i g = ap (λ (x : Handed A). x.number) (where-given i g)

  pub exactly : Exactly chain nothing value h
  exactly =
      record {
        accepted-where = where-none;
        accepted-only = λ z. by_chain chain (λ none. none) (λ i g. absurd (omega (arith, number-of i g, refusal-numbered (check_at chain i).refusal)));
        refused-where = where-given;
        refused-only = λ number some e.
            by_chain chain
            (λ none. absurd (omega (arith, ap (λ (x : Handed A). x.number) (where-none none))))
            (λ i g. record { place = i; given = g; numbered = sym (number-of i g) ∙ e });
      }

-- an answer made of a chain's answer is that chain's
module _ {A B : Type 0} (f : A → B) (refuse : Refusal → A) (accept : A) where
  pub first-through : (chain : List Check) → f (first_by refuse accept chain) ≡ first_by (λ r. f (refuse r)) (f accept) chain
  unfolding first_by
  first-through [] = refl
  first-through (c ∷ rest) = by_bool c.sentence (λ t. rw t) (λ t. rw t (first-through rest))

-- a verdict that is a chain's
pub verdict-exactly : (chain : List Check) (v : Verdict) → v ≡ first_of chain → Exactly chain tt tt (handed_verdict v)
verdict-exactly chain v is = exactly chain tt tt (handed_verdict v) (ap handed_verdict is ∙ first-through handed_verdict Err (Ok tt) chain)

-- two chains, one after the other
pub first_then : {A : Type 0} (refuse : Refusal → A) (accept : A) (xs ys : List Check)
    → first_by refuse (first_by refuse accept ys) xs ≡ first_by refuse accept (xs ++ ys)
unfolding first_by
first_then refuse accept [] ys = refl
first_then refuse accept (c ∷ xs) ys = by_bool c.sentence (λ t. rw t) (λ t. rw t (first_then refuse accept xs ys))

-- a check whose sentence never holds may be left out
pub first-without : {A : Type 0} (refuse : Refusal → A) (accept : A) (xs : List Check) (c : Check) (ys : List Check) → c.sentence ≡ false
    → first_by refuse accept (xs ++ (c ∷ ys)) ≡ first_by refuse accept (xs ++ ys)
unfolding first_by
first-without refuse accept [] c ys fails = rw fails
first-without refuse accept (x ∷ xs) c ys fails =
    by_bool x.sentence (λ t. rw t) (λ t. rw t (first-without refuse accept xs c ys fails))

-- a number of a check is among its chain's
number_in : (chain : List Check) (i : ℕ) → i < length chain → Memᴰ (number_of (check_at chain i).refusal) (numbers_given chain)
number_in [] i l = absurd (omega arith)
number_in (c ∷ rest) zero l = Memᴰ.head refl
number_in (c ∷ rest) (suc i) l = Memᴰ.tail (number_in rest i (omega arith))

-- a call hands back 0 or one of its chain's numbers, and no other
pub number-among : {A : Type 0} (chain : List Check) (nothing value : A) (h : Handed A) → Exactly chain nothing value h
    → Memᴰ h.number (0 ∷ numbers_given chain)
number-among chain nothing value h x =
    by-eq h.number 0
    (λ z. Memᴰ.head z)
    (λ z.
    let some : 1 ≤ h.number = by_le 1 h.number (λ l. l) (λ l. absurd (z (omega arith))) in
    let g = x.refused-only h.number some refl in
    Memᴰ.tail (Memᴰ.cast (sym g.numbered) (number_in chain g.place g.given.there)))

-- more than so many, and not at most so many
pub not-most : (a b : ℕ) → not (leb a b) ≡ ltb b a
not-most a b = by_le a b (λ l. rw (le-leb a b l, le-ltb b a l)) (λ l. rw (lt-leb a b l, lt-ltb b a l))
