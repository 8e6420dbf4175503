-- The walk over the tasks finds the next saturation step, or says that there is none.
-- Assumes nothing.
use Rattle.ground.proofs.Kit.{ℕ, zero, suc, ◌+◌, ◌≤◌, ◌<◌, ◌≡◌, refl, ap, add-one, arith, le-leb, lt-leb, Option, Some, None}
use native.Mathlib.Nat.{min-eq_left, min-eq_right}
use Rattle.ground.proofs.Cases.{by_le}
use Rattle.division.specs.Next.{Next, lesser, nearer, next_to}

-- nearer, case by case
pub nearer-low : (p : ℕ) (b : Option ℕ) (x : ℕ) → x ≤ p → nearer p b x ≡ b
unfolding nearer
nearer-low p b x h = rw (le-leb x p h)

pub nearer-new : (p : ℕ) (b : Option ℕ) (x : ℕ) → p < x → nearer p b x ≡ Some (lesser b x)
unfolding nearer
nearer-new p b x h = rw (lt-leb x p h)

-- one task more, where the code has i + 1
pub next_start : (s : ℕ → ℕ) (p : ℕ) → next_to s p 0 ≡ None
unfolding next_to
next_start s p = refl

pub next_more : (s : ℕ → ℕ) (p i : ℕ) → next_to s p (i + 1) ≡ nearer p (next_to s p i) (s i)
unfolding next_to
next_more s p i = rw (add-one i)

-- the old step stays, or the new task's is nearer
next-old : (s : ℕ → ℕ) (p n q : ℕ) → Next s n p q → (p < s n → q ≤ s n) → Next s (suc n) p q
next-old s p n q x a =
    record {
      above = x.above;
      by = x.by;
      by-below = omega (arith, x.by-below);
      is = x.is;
      least = λ i l h. by_le (suc i) n (λ m. x.least i m h) (λ m. let z : i ≡ n = omega arith in rw z (a (rw z at h)));
    }

next-new : (s : ℕ → ℕ) (p n : ℕ) → p < s n → ((i : ℕ) → i < n → p < s i → s n ≤ s i) → Next s (suc n) p (s n)
next-new s p n a b =
    record {
      above = a;
      by = n;
      by-below = omega arith;
      is = refl;
      least = λ i l h. by_le (suc i) n (λ m. b i m h) (λ m. let z : i ≡ n = omega arith in omega (arith, ap s z));
    }

-- what the walk has found of the first n
abbrev Found : (ℕ → ℕ) → ℕ → ℕ → Option ℕ → Type 0
Found s p n (Some q) = Next s n p q
Found s p n None = (i : ℕ) → i < n → s i ≤ p

found-low : (s : ℕ → ℕ) (p n : ℕ) (b : Option ℕ) → s n ≤ p → Found s p n b → Found s p (suc n) b
found-low s p n (Some q) h x = next-old s p n q x (λ z. absurd (omega arith))
found-low s p n None h x = λ i l. by_le (suc i) n (λ m. x i m) (λ m. let z : i ≡ n = omega arith in omega (arith, ap s z))

found-new : (s : ℕ → ℕ) (p n : ℕ) (b : Option ℕ) → p < s n → Found s p n b → Next s (suc n) p (lesser b (s n))
found-new s p n None h x = next-new s p n h (λ i l z. absurd (omega (arith, x i l)))
found-new s p n (Some q) h x =
    by_le q (s n)
    (λ l. rw (min-eq_left l) (next-old s p n q x (λ z. l)))
    (λ l. let l' : s n ≤ q = omega arith in rw (min-eq_right l') (next-new s p n h (λ i m z. omega (arith, x.least i m z))))

found : (s : ℕ → ℕ) (p n : ℕ) → Found s p n (next_to s p n)
unfolding next_to
found s p zero = λ i l. absurd (omega arith)
found s p (suc n) =
    by_le (s n) p
    (λ h. rw (nearer-low p (next_to s p n) (s n) h) (found-low s p n (next_to s p n) h (found s p n)))
    (λ h. rw (nearer-new p (next_to s p n) (s n) h) (found-new s p n (next_to s p n) h (found s p n)))

pub next-none : (s : ℕ → ℕ) (p n : ℕ) → next_to s p n ≡ None → (i : ℕ) → i < n → s i ≤ p
next-none s p n e = rw e at (found s p n)

pub next-is : (s : ℕ → ℕ) (p n q : ℕ) → next_to s p n ≡ Some q → Next s n p q
next-is s p n q e = rw e at (found s p n)
