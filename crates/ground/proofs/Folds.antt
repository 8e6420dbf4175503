-- Laws of the folds. The last of each group says that a fold looks at the numbers below n only.
-- Assumes nothing.
use Rattle.ground.proofs.Kit.{ℕ, zero, suc, ◌+◌, ◌*◌, ◌≤◌, ◌<◌, max, Bool, true, false, ◌≡◌, refl, sym, ◌∙◌, ap, add-one, arith}
use Rattle.ground.specs.Choice.{bit}
use Rattle.ground.specs.Folds.{sum_to, AddedUp, max_to, count_to, any_to}
use Rattle.ground.proofs.Cases.{by_bool, by_le}

-- sums
pub sum-none : (f : ℕ → ℕ) → sum_to f 0 ≡ 0
unfolding sum_to
sum-none f = refl

pub sum_more : (f : ℕ → ℕ) (n : ℕ) → sum_to f (n + 1) ≡ sum_to f n + f n
unfolding sum_to
sum_more f n = rw (add-one n)

pub sum-le : (f g : ℕ → ℕ) (n : ℕ) → ((i : ℕ) → i < n → f i ≤ g i) → sum_to f n ≤ sum_to g n
unfolding sum_to
sum-le f g zero h = omega arith
sum-le f g (suc n) h = omega (arith, sum-le f g n (λ i l. h i (omega arith)), h n (omega arith))

pub sum-most : (f : ℕ → ℕ) (n b : ℕ) → ((i : ℕ) → i < n → f i ≤ b) → sum_to f n ≤ b * n
unfolding sum_to
sum-most f zero b h = omega arith
sum-most f (suc n) b h = omega (arith, sum-most f n b (λ i l. h i (omega arith)), h n (omega arith))

-- a walk that adds the terms up
pub added_none : (f : ℕ → ℕ) (each : ℕ) → AddedUp f each 0 0
added_none f each = record { is = sym (sum-none f); most = omega arith }

pub added_more : (f : ℕ → ℕ) (each i sum x : ℕ) → AddedUp f each i sum → x ≡ f i → x ≤ each → AddedUp f each (i + 1) (sum + x)
added_more f each i sum x s e h = record { is = omega (arith, sum_more f i, s.is, e); most = omega (arith, s.most, h) }

pub term-le-sum : (f : ℕ → ℕ) (n i : ℕ) → i < n → f i ≤ sum_to f n
unfolding sum_to
term-le-sum f zero i l = omega arith
term-le-sum f (suc n) i l =
    by_le (suc i) n (λ h. omega (arith, term-le-sum f n i h)) (λ h. let e : i ≡ n = omega arith in omega (arith, ap f e))

-- values that fall by j times a slope: the sum falls by j times the sum of the slopes
pub sum-line : (f g slope : ℕ → ℕ) (j n : ℕ) → ((i : ℕ) → i < n → f i ≡ g i + j * slope i) → sum_to f n ≡ sum_to g n + j * sum_to slope n
unfolding sum_to
sum-line f g slope j zero h = omega arith
sum-line f g slope j (suc n) h = omega (arith, sum-line f g slope j n (λ i l. h i (omega arith)), h n (omega arith))

pub sum-cong : (f g : ℕ → ℕ) (n : ℕ) → ((i : ℕ) → i < n → f i ≡ g i) → sum_to f n ≡ sum_to g n
unfolding sum_to
sum-cong f g zero h = refl
sum-cong f g (suc n) h = omega (arith, sum-cong f g n (λ i l. h i (omega arith)), h n (omega arith))

-- maxima
pub max_none : (f : ℕ → ℕ) → max_to f 0 ≡ 0
unfolding max_to
max_none f = refl

pub max-more : (f : ℕ → ℕ) (n : ℕ) → max_to f (n + 1) ≡ max (max_to f n) (f n)
unfolding max_to
max-more f n = rw (add-one n)

-- a walk that has come to i takes the value there
pub max-step : (f : ℕ → ℕ) (i greatest v r : ℕ) → greatest ≡ max_to f i → v ≡ f i → r ≡ max greatest v → r ≡ max_to f (i + 1)
max-step f i greatest v r p q e = omega (arith, max-more f i, p, q, e)

pub le-max-to : (f : ℕ → ℕ) (n i : ℕ) → i < n → f i ≤ max_to f n
unfolding max_to
le-max-to f zero i l = omega arith
le-max-to f (suc n) i l =
    by_le (suc i) n (λ h. omega (arith, le-max-to f n i h)) (λ h. let e : i ≡ n = omega arith in omega (arith, ap f e))

pub max-to-le : (f : ℕ → ℕ) (n b : ℕ) → ((i : ℕ) → i < n → f i ≤ b) → max_to f n ≤ b
unfolding max_to
max-to-le f zero b h = omega arith
max-to-le f (suc n) b h = omega (arith, max-to-le f n b (λ i l. h i (omega arith)), h n (omega arith))

-- a number below the maximum is below one of the values
pub max-reached : (f : ℕ → ℕ) (n b : ℕ) → b < max_to f n → (i : ℕ) × (i < n) × (b < f i)
unfolding max_to
max-reached f zero b h = absurd (omega arith)
max-reached f (suc n) b h =
    by_le (suc b) (f n)
    (λ l. (n, omega arith, l))
    (λ l. let r = max-reached f n b (omega arith) in (r.0, omega (arith, r.1), r.2))

-- values that fall: the maximum falls
pub max_falls : (f g : ℕ → ℕ) (n : ℕ) → ((i : ℕ) → i < n → g i ≤ f i) → max_to g n ≤ max_to f n
max_falls f g n h = max-to-le g n (max_to f n) (λ i l. omega (arith, h i l, le-max-to f n i l))

pub max-cong : (f g : ℕ → ℕ) (n : ℕ) → ((i : ℕ) → i < n → f i ≡ g i) → max_to f n ≡ max_to g n
unfolding max_to
max-cong f g zero h = refl
max-cong f g (suc n) h = omega (arith, max-cong f g n (λ i l. h i (omega arith)), h n (omega arith))

-- counts
pub count-le : (test : ℕ → Bool) (n : ℕ) → count_to test n ≤ n
unfolding count_to
count-le test zero = omega arith
count-le test (suc n) = by_bool (test n) (λ h. omega (arith, count-le test n, ap bit h)) (λ h. omega (arith, count-le test n, ap bit h))

-- a number at which the test fails is not counted
pub count-lt : (test : ℕ → Bool) (n i : ℕ) → i < n → test i ≡ false → count_to test n < n
unfolding count_to
count-lt test zero i l e = absurd (omega arith)
count-lt test (suc n) i l e =
    by_le (suc i) n
    (λ m. by_bool (test n) (λ h. omega (arith, count-lt test n i m e, ap bit h)) (λ h. omega (arith, count-lt test n i m e, ap bit h)))
    (λ m. let q : i ≡ n = omega arith in omega (arith, count-le test n, ap bit (ap test (sym q) ∙ e)))

-- a count is the sum of two where at each number one of the two tests takes the test's place
pub count-split : (f g h : ℕ → Bool) (n : ℕ) → ((i : ℕ) → i < n → bit (f i) ≡ bit (g i) + bit (h i)) → count_to f n ≡ count_to g n + count_to h n
unfolding count_to
count-split f g h zero e = refl
count-split f g h (suc n) e = omega (arith, count-split f g h n (λ i l. e i (omega arith)), e n (omega arith))

pub count_none : (test : ℕ → Bool) (n : ℕ) → ((i : ℕ) → i < n → test i ≡ false) → count_to test n ≡ 0
unfolding count_to
count_none test zero h = refl
count_none test (suc n) h = omega (arith, count_none test n (λ i l. h i (omega arith)), ap bit (h n (omega arith)))

pub count-cong : (f g : ℕ → Bool) (n : ℕ) → ((i : ℕ) → i < n → f i ≡ g i) → count_to f n ≡ count_to g n
unfolding count_to
count-cong f g zero h = refl
count-cong f g (suc n) h = omega (arith, count-cong f g n (λ i l. h i (omega arith)), ap bit (h n (omega arith)))

-- whether the test holds at any
pub any-has : (test : ℕ → Bool) (n i : ℕ) → i < n → test i ≡ true → any_to test n ≡ true
unfolding any_to
any-has test zero i l t = absurd (omega arith)
any-has test (suc n) i l t =
    by_le (suc i) n
    (λ m. rw (any-has test n i m t))
    (λ m. let z : i ≡ n = omega arith in by_bool (any_to test n) (λ u. rw u) (λ u. rw u (ap test (sym z) ∙ t)))

pub any-cong : (f g : ℕ → Bool) (n : ℕ) → ((i : ℕ) → i < n → f i ≡ g i) → any_to f n ≡ any_to g n
unfolding any_to
any-cong f g zero h = refl
any-cong f g (suc n) h = rw (any-cong f g n (λ i l. h i (omega arith)), h n (omega arith))
