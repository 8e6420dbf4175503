-- Laws of lists that are joined one after the other: one more, how long they are, and that only those below n are looked at.
-- Assumes nothing.
use Rattle.ground.proofs.Kit.{ℕ, zero, suc, ◌+◌, ◌*◌, ◌≤◌, ◌<◌, List, [], ◌++◌, ◌≡◌, refl, ◌∙◌, ap, add-one, arith, length, length-append}
use Rattle.ground.specs.Folds.{sum_to, join_to}
use Rattle.ground.proofs.Sums.{sum-wider}

module _ {A : Type 0} (f : ℕ → List A) where
  pub join-none : join_to f 0 ≡ []
  unfolding join_to
  join-none = refl

  pub join_more : (n : ℕ) → join_to f (n + 1) ≡ join_to f n ++ f n
  unfolding join_to
  join_more n = rw (add-one n)

  pub join-longer : (n : ℕ) → length (join_to f (n + 1)) ≡ length (join_to f n) + length (f n)
  join-longer n = ap length (join_more n) ∙ length-append (join_to f n) (f n)

  join-long : (n : ℕ) → length (join_to f n) ≡ sum_to (λ i. length (f i)) n
  unfolding join_to sum_to
  join-long zero = refl
  join-long (suc n) = simp length-append (omega (arith, join-long n))

  -- the first have no more entries than more of them
  pub join-within : (i n : ℕ) → i ≤ n → length (join_to f i) ≤ length (join_to f n)
  join-within i n h = omega (arith, join-long i, join-long n, sum-wider (λ j. length (f j)) i n h)

  -- all of one length
  pub join-sized : (size : ℕ) → ((i : ℕ) → length (f i) ≡ size) → (n : ℕ) → length (join_to f n) ≡ size * n
  unfolding join_to
  join-sized size e zero = omega arith
  join-sized size e (suc n) = simp length-append (omega (arith, join-sized size e n, e n))

pub join-cong : {A : Type 0} (f g : ℕ → List A) (n : ℕ) → ((i : ℕ) → i < n → f i ≡ g i) → join_to f n ≡ join_to g n
unfolding join_to
join-cong f g zero h = refl
join-cong f g (suc n) h = rw (join-cong f g n (λ i l. h i (omega arith)), h n (omega arith))
