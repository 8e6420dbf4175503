-- Laws of lists laid over others: one entry more, what stands where, and that this settles them; then of rows by number, and of lists brought
-- to a length.
-- Assumes nothing.
use Rattle.ground.proofs.Kit.{ℕ, zero, suc, ◌+◌, ◌≤◌, ◌<◌, min, List, [], ◌∷◌, ◌++◌, ◌≡◌, refl, sym, ◌∙◌, ap, add-one, arith, length, get_or, set, take}
use Rattle.ground.proofs.Kit.{drop, replicate, length-replicate, get_or-replicate, length-take-le}
use native.Mathlib.Nat.{not-suc-le-zero, le_of_suc-le-suc}
use lib.ListN.{get_or-eq_default}
use lib.Seq.{take-suc, ext_get_or}
use Rattle.ground.specs.Folds.{list_to}
use Rattle.ground.specs.Laid.{laid, over, padded, padded_to}
use Rattle.ground.proofs.Buffer.{list-long, list-in, list-cong}
use Rattle.ground.proofs.Cases.{by_le}

module _ {A : Type 0} where
  -- nothing is added and nothing lost
  pub laid-long : (xs rest : List A) → length (laid xs rest) ≡ length rest
  laid-long [] rest = refl
  laid-long (x ∷ xs) [] = refl
  laid-long (x ∷ xs) (y ∷ rest) = ap suc (laid-long xs rest)

  -- one entry more
  pub laid_next : (xs rest : List A) (y : A) → set (laid xs rest) (length xs) y ≡ laid (xs ++ (y ∷ [])) rest
  laid_next [] [] y = refl
  laid_next [] (z ∷ rest) y = refl
  laid_next (x ∷ xs) [] y = refl
  laid_next (x ∷ xs) (z ∷ rest) y = ap (λ (ys : List A). x ∷ ys) (laid_next xs rest y)

  laid-put : (xs rest : List A) (i : ℕ) (y : A) → length xs ≡ i → set (laid xs rest) i y ≡ laid (xs ++ (y ∷ [])) rest
  laid-put xs rest i y e = ap (λ (k : ℕ). set (laid xs rest) k y) (sym e) ∙ laid_next xs rest y

  -- as many as there are, or as there is room for, are all of them
  laid-all : (i : ℕ) (xs rest : List A) → min (length xs) (length rest) ≤ i → laid (take i xs) rest ≡ laid xs rest
  laid-all zero [] rest l = refl
  laid-all (suc i) [] rest l = refl
  laid-all zero (x ∷ xs) [] l = refl
  laid-all (suc i) (x ∷ xs) [] l = refl
  laid-all zero (x ∷ xs) (y ∷ rest) l = absurd (omega arith)
  laid-all (suc i) (x ∷ xs) (y ∷ rest) l = ap (λ (ys : List A). x ∷ ys) (laid-all i xs rest (omega arith))

  -- what stands where
  pub laid_in : (none : A) (xs rest : List A) (i : ℕ) → length xs ≤ length rest → i < length xs → get_or (laid xs rest) i none ≡ get_or xs i none
  laid_in none [] rest i h l = absurd (not-suc-le-zero l)
  laid_in none (x ∷ xs) [] i h l = absurd (not-suc-le-zero h)
  laid_in none (x ∷ xs) (y ∷ rest) zero h l = refl
  laid_in none (x ∷ xs) (y ∷ rest) (suc i) h l = laid_in none xs rest i (le_of_suc-le-suc h) (le_of_suc-le-suc l)

  pub laid_out : (none : A) (xs rest : List A) (i : ℕ) → length xs ≤ i → get_or (laid xs rest) i none ≡ get_or rest i none
  laid_out none [] rest i h = refl
  laid_out none (x ∷ xs) [] i h = refl
  laid_out none (x ∷ xs) (y ∷ rest) zero h = absurd (not-suc-le-zero h)
  laid_out none (x ∷ xs) (y ∷ rest) (suc i) h = laid_out none xs rest i (le_of_suc-le-suc h)

  -- where all find a place, they stand there, and after them what stood there
  pub laid-front : (xs rest : List A) → length xs ≤ length rest → laid xs rest ≡ xs ++ drop (length xs) rest
  laid-front [] rest h = refl
  laid-front (x ∷ xs) [] h = absurd (not-suc-le-zero h)
  laid-front (x ∷ xs) (y ∷ rest) h = ap (λ (ys : List A). x ∷ ys) (laid-front xs rest (le_of_suc-le-suc h))

module _ {A : Type 0} (rest : List A) where
  module _ (f : ℕ → A) where
    pub over_none : over rest f 0 ≡ rest
    unfolding over list_to
    over_none = refl

    pub over-more : (i : ℕ) → over rest f (i + 1) ≡ set (over rest f i) i (f i)
    unfolding over list_to
    over-more i = rw (add-one i) (sym (laid-put (list_to f i) rest i (f i) (list-long f i)))

    pub over-long : (n : ℕ) → length (over rest f n) ≡ length rest
    unfolding over
    over-long n = laid-long (list_to f n) rest

    -- the first n, and those past them
    pub over-in : (none : A) (n i : ℕ) → i < n → n ≤ length rest → get_or (over rest f n) i none ≡ f i
    unfolding over
    over-in none n i h k = laid_in none (list_to f n) rest i (rw (list-long f n) k) (rw (list-long f n) h) ∙ list-in none f n i h

    pub over-out : (none : A) (n i : ℕ) → n ≤ i → get_or (over rest f n) i none ≡ get_or rest i none
    unfolding over
    over-out none n i h = laid_out none (list_to f n) rest i (rw (list-long f n) h)

    -- rows that stand so are these
    pub over-is : (none : A) (n : ℕ) (rows : List A) → n ≤ length rest → length rows ≡ length rest
        → ((i : ℕ) → i < n → f i ≡ get_or rows i none) → ((i : ℕ) → n ≤ i → get_or rows i none ≡ get_or rest i none) → over rest f n ≡ rows
    over-is none n rows few long used unused =
        ext_get_or none _ _ (over-long n ∙ sym long)
        (λ i l. by_le n i (λ h. over-out none n i h ∙ sym (unused i h)) (λ h. over-in none n i h few ∙ used i h))

    -- where there is room, they are the front
    pub over-front : (n : ℕ) → n ≤ length rest → over rest f n ≡ list_to f n ++ drop n rest
    unfolding over
    over-front n h = rw (list-long f n) at (laid-front (list_to f n) rest (rw (list-long f n) h))

  pub over-cong : (f g : ℕ → A) (n : ℕ) → ((i : ℕ) → i < n → f i ≡ g i) → over rest f n ≡ over rest g n
  unfolding over
  over-cong f g n e = ap (λ (l : List A). laid l rest) (list-cong f g n e)

module _ {A : Type 0} (none : A) (k : ℕ) where
  -- unused places only
  pub blank-at : (i : ℕ) → get_or (replicate k none) i none ≡ none
  blank-at i =
      by_le (suc i) k
      (λ h. get_or-replicate k i none none h)
      (λ h. get_or-eq_default (replicate k none) none {n = i} (rw (length-replicate k none) (omega arith)))

  -- of a list
  pub padded-long : (xs : List A) → length (padded none k xs) ≡ k
  padded-long xs = laid-long xs (replicate k none) ∙ length-replicate k none

  pub padded-more : (i : ℕ) (xs : List A) → i < length xs → set (padded none k (take i xs)) i (get_or xs i none) ≡ padded none k (take (i + 1) xs)
  padded-more i xs l =
      rw add-one
      (laid-put (take i xs) (replicate k none) i (get_or xs i none) (length-take-le i xs (omega arith))
      ∙ ap (padded none k) (sym (take-suc xs i none l)))

  pub padded-all : (i : ℕ) (xs : List A) → min (length xs) k ≤ i → padded none k (take i xs) ≡ padded none k xs
  padded-all i xs l = laid-all i xs (replicate k none) (rw (length-replicate k none) l)

  pub padded-at : (xs : List A) → length xs ≤ k → (i : ℕ) → get_or (padded none k xs) i none ≡ get_or xs i none
  padded-at xs few i =
      by_le (suc i) (length xs)
      (λ l. laid_in none xs (replicate k none) i (rw (length-replicate k none) few) l)
      (λ l. laid_out none xs (replicate k none) i (omega arith) ∙ (blank-at i ∙ sym (get_or-eq_default xs none {n = i} (omega arith))))

  -- of rows by number
  module _ (f : ℕ → A) where
    pub padded-to-long : (n : ℕ) → length (padded_to none k f n) ≡ k
    padded-to-long n = over-long (replicate k none) f n ∙ length-replicate k none

    pub padded-to-in : (n i : ℕ) → i < n → n ≤ k → get_or (padded_to none k f n) i none ≡ f i
    padded-to-in n i h few = over-in (replicate k none) f none n i h (rw (length-replicate k none) few)

    pub padded-to-out : (n i : ℕ) → n ≤ i → get_or (padded_to none k f n) i none ≡ none
    padded-to-out n i h = over-out (replicate k none) f none n i h ∙ blank-at i

    pub padded-to-is : (n : ℕ) (rows : List A) → n ≤ k → length rows ≡ k
        → ((i : ℕ) → i < n → f i ≡ get_or rows i none) → ((i : ℕ) → n ≤ i → get_or rows i none ≡ none) → padded_to none k f n ≡ rows
    padded-to-is n rows few long used unused =
        let room = length-replicate k none in
        over-is (replicate k none) f none n rows (rw room few) (long ∙ sym room) used (λ i h. unused i h ∙ sym (blank-at i))
