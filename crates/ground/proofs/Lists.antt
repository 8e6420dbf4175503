-- What a chain of iterators gives of a list, in the words of `Folds` and `First` over the numbers of its entries.
-- Assumes nothing.
use Rattle.ground.proofs.Kit.{ℕ, zero, suc, ◌+◌, ◌<◌, max, Bool, not, List, [], ◌∷◌, ◌≡◌, refl, sym, ◌∙◌, ap, arith, length, get_or, lt-ltb, not-true, Some, None}
use mathlib.Core.List.{map}
use Rattle.std.specs.Prelude.{unwrap_or}
use Rattle.std.specs.List.{fold, reduce, sum_by, position, position_or_len}
use Rattle.std.proofs.lemmas.List.Quantifiers.{position-Some}
use Rattle.std.proofs.lemmas.List.Sums.{sum_by-cons, prefix_len_passes}
use Rattle.ground.specs.First.{first_below}
use Rattle.ground.specs.Folds.{sum_to, max_to}
use Rattle.ground.proofs.Cases.{by_le}
use Rattle.ground.proofs.First.{first-here, first-none}
use Rattle.ground.proofs.Least.{nothing-at}

sum-front : (f : ℕ → ℕ) (n : ℕ) → sum_to f (suc n) ≡ f 0 + sum_to (λ i. f (suc i)) n
unfolding sum_to
sum-front f zero = omega arith
sum-front f (suc n) = omega (arith, sum-front f n)

max-front : (f : ℕ → ℕ) (n : ℕ) → max_to f (suc n) ≡ max (f 0) (max_to (λ i. f (suc i)) n)
unfolding max_to
max-front f zero = omega arith
max-front f (suc n) = omega (arith, max-front f n)

fold-max : (a : ℕ) (xs : List ℕ) → fold max a xs ≡ max a (fold max 0 xs)
fold-max a [] = omega arith
fold-max a (x ∷ xs) = omega (arith, fold-max (max a x) xs, fold-max (max 0 x) xs)

module _ {A : Type 0} (none : A) where
  -- a sum
  pub sum-list : (f : A → ℕ) (xs : List A) → sum_by f xs ≡ sum_to (λ i. f (get_or xs i none)) (length xs)
  unfolding sum_to
  sum-list f [] = refl
  sum-list f (x ∷ xs) =
      sum_by-cons f x xs ∙ (ap (λ (s : ℕ). f x + s) (sum-list f xs) ∙ sym (sum-front (λ i. f (get_or (x ∷ xs) i none)) (length xs)))

  folded : (f : A → ℕ) (xs : List A) → fold max 0 (map f xs) ≡ max_to (λ i. f (get_or xs i none)) (length xs)
  unfolding max_to
  folded f [] = refl
  folded f (x ∷ xs) =
      omega (arith, fold-max (max 0 (f x)) (map f xs), folded f xs, max-front (λ i. f (get_or (x ∷ xs) i none)) (length xs))

  -- the greatest, 0 where there is none
  pub max-list : (f : A → ℕ) (xs : List A) → unwrap_or (reduce max (map f xs)) 0 ≡ max_to (λ i. f (get_or xs i none)) (length xs)
  unfolding max_to
  max-list f [] = refl
  max-list f (x ∷ xs) =
      omega (arith, fold-max (f x) (map f xs), folded f xs, max-front (λ i. f (get_or (x ∷ xs) i none)) (length xs))

  -- the first place at which a test holds
  module _ (test : A → Bool) (xs : List A) where
    pub position-first : (i : ℕ) → position test xs ≡ Some i → (i < length xs) × (i ≡ first_below (λ j. test (get_or xs j none)) (length xs))
    position-first i e =
        let s = position-Some test xs i none e in
        (s.0, first-here (λ j. test (get_or xs j none)) (length xs) i s.2 s.0 s.1)

    pub position-none : position test xs ≡ None → length xs ≡ first_below (λ j. test (get_or xs j none)) (length xs)
    position-none e =
        by_le (suc (position_or_len test xs)) (length xs)
        (λ l. nothing-at (sym (rw (lt-ltb (position_or_len test xs) (length xs) l) at e)))
        (λ l. first-none (λ j. test (get_or xs j none)) (length xs) (length xs)
        (λ j h. not-true _ (prefix_len_passes (λ x. not (test x)) xs j none (omega arith))) refl)
