-- A buffer that is written from the front: the first i entries are f's, the rest is as it was.
-- Assumes nothing.
use Rattle.ground.proofs.Kit.{ℕ, zero, suc, ◌+◌, ◌-◌, ◌≤◌, ◌<◌, List, [], ◌∷◌, ◌++◌, append-nil, append_assoc, ◌≡◌, refl, sym, ◌∙◌, ap, add-one, arith}
use Rattle.ground.proofs.Kit.{length, get_or, set, take, drop, length-set, length-append}
use lib.Seq.{set_at, drop-cons, take-suc, get_or_at, get_or-append-add, get_or-drop, ext_get_or}
use Rattle.ground.specs.Folds.{list_to}
use Rattle.ground.proofs.Cases.{by_le}

pub list-long : {A : Type 0} (f : ℕ → A) (n : ℕ) → length (list_to f n) ≡ n
unfolding list_to
list-long f zero = refl
list-long f (suc n) = simp length-append (omega (arith, list-long f n))

pub list-none : (f : ℕ → ℕ) (old : List ℕ) → old ≡ list_to f 0 ++ drop 0 old
unfolding list_to
list-none f old = refl

pub list-more : (f : ℕ → ℕ) (i v : ℕ) (old out : List ℕ) → i < length old → v ≡ f i → out ≡ list_to f i ++ drop i old
    → set out i v ≡ list_to f (i + 1) ++ drop (i + 1) old
unfolding list_to
list-more f i v old out h e o =
    let d = drop-cons old i 0 h in
    let s = set_at (list_to f i) (get_or old i 0) (drop (suc i) old) (f i) i (list-long f i) in
    rw (o, d, e) (rw (add-one i) (rw append_assoc s))

-- what stands where
pub list_at : {A : Type 0} (none : A) (f : ℕ → A) (n i : ℕ) (rest : List A) → i < n → get_or (list_to f n ++ rest) i none ≡ f i
unfolding list_to
list_at none f zero i rest h = absurd (omega arith)
list_at none f (suc n) i rest h =
    rw append_assoc
    (by_le (suc i) n
    (λ l. list_at none f n i ((f n ∷ []) ++ rest) l)
    (λ l. let e : i ≡ n = omega arith in rw e (get_or_at (list_to f n) (f n) rest none n (list-long f n))))

pub list-in : {A : Type 0} (none : A) (f : ℕ → A) (n i : ℕ) → i < n → get_or (list_to f n) i none ≡ f i
list-in none f n i l = rw (append-nil (list_to f n)) at (list_at none f n i [] l)

-- all of a list
pub list_all : {A : Type 0} (none : A) (xs : List A) → list_to (λ i. get_or xs i none) (length xs) ≡ xs
list_all {A} none xs =
    let entry : ℕ → A = λ i. get_or xs i none in
    ext_get_or none _ _ (list-long entry (length xs)) (λ i l. list-in none entry (length xs) i (rw (list-long entry (length xs)) at l))

-- its front
pub list-taken : {A : Type 0} (none : A) (xs : List A) (n : ℕ) → n ≤ length xs → list_to (λ i. get_or xs i none) n ≡ take n xs
unfolding list_to
list-taken none xs zero h = refl
list-taken none xs (suc n) h = rw (list-taken none xs n (omega arith)) (sym (take-suc xs n none h))

pub list-past : (f : ℕ → ℕ) (n i : ℕ) (old : List ℕ) → n ≤ i → get_or (list_to f n ++ drop n old) i 0 ≡ get_or old i 0
list-past f n i old h =
    let e : length (list_to f n) + (i - n) ≡ i = omega (arith, list-long f n) in
    let g = get_or-append-add (list_to f n) (drop n old) (i - n) 0 in
    let q : n + (i - n) ≡ i = omega arith in
    (rw e at g) ∙ (get_or-drop n old (i - n) 0 ∙ ap (λ (x : ℕ). get_or old x 0) q)

pub list-cong : {A : Type 0} (f g : ℕ → A) (n : ℕ) → ((i : ℕ) → i < n → f i ≡ g i) → list_to f n ≡ list_to g n
unfolding list_to
list-cong f g zero h = refl
list-cong f g (suc n) h =
    let a = list-cong f g n (λ i l. h i (omega arith)) in
    let b = h n (omega arith) in
    rw (list_to, a, b)

-- a walk that has written i entries of a buffer
pub record Front (f : ℕ → ℕ) (old out : List ℕ) (i : ℕ) : Type 0 where
  pub is : out ≡ list_to f i ++ drop i old
  pub long : length out ≡ length old

pub front-none : (f : ℕ → ℕ) (old : List ℕ) → Front f old old 0
front-none f old = record { is = list-none f old; long = refl }

pub front-more : (f : ℕ → ℕ) (old out : List ℕ) (i v : ℕ) → i < length old → v ≡ f i → Front f old out i → Front f old (set out i v) (i + 1)
front-more f old out i v l e w = record { is = list-more f i v old out l e w.is; long = length-set out i v ∙ w.long }
