-- Counting the releases that wait.
-- Assumes nothing.
use Rattle.ground.proofs.Kit.{ℕ, zero, suc, ◌+◌, ◌-◌, ◌*◌, ◌/◌, ◌≤◌, ◌<◌, ◌≡◌, ap, arith, leb, le-leb, lt-leb, leb-true}
use native.Mathlib.Nat.{div-lt_iff_lt-mul}
use Rattle.ground.specs.Folds.{sum_to}
use Rattle.ground.proofs.Cases.{by_bool, by_le}
use Rattle.ground.proofs.Folds.{sum-cong}
use Rattle.clock_time.specs.Waiting.{releases_by}

-- the count is what it says: release number k, from 0, comes at or before t exactly when k is below the count
module _ (first period t : ℕ) (h : 1 ≤ period) where
  pub release-counted : (k : ℕ) → first + k * period ≤ t → k < releases_by first period t
  unfolding releases_by
  release-counted k l =
      let a : first ≤ t = omega arith in
      by_le (suc k) (suc ((t - first) / period))
      (λ g. rw (le-leb first t a) g)
      (λ g. let q : (t - first) / period < k = omega arith in
      let r : t - first < k * period = (div-lt_iff_lt-mul (omega arith)).0 q in
      absurd (omega arith))

  pub counted-comes : (k : ℕ) → k < releases_by first period t → first + k * period ≤ t
  unfolding releases_by
  counted-comes k l =
      by_bool (leb first t)
      (λ b. let a : first ≤ t = leb-true first t b in
      let m : k < suc ((t - first) / period) = rw b at l in
      by_le (first + k * period) t
      (λ g. g)
      (λ g. let q : t - first < k * period = omega arith in
      let r : (t - first) / period < k = (div-lt_iff_lt-mul (omega arith)).1 q in
      absurd (omega arith)))
      (λ b. let m : k < 0 = rw b at l in absurd (omega arith))

-- moving on by a period leaves one less of them
pub one_less : (first period t : ℕ) → 1 ≤ period → 1 ≤ first → first ≤ t
    → releases_by first period t ≡ suc (releases_by first period (t - period))
one_less first period t h o l =
    let a = releases_by first period t in
    let b = releases_by first period (t - period) in
    let some : 0 < a = release-counted first period t h 0 (omega arith) in
    by_le a b
    (λ g. let u : first + (b - 1) * period ≤ t - period = counted-comes first period (t - period) h (b - 1) (omega arith) in
    let v : suc (b - 1) < a = release-counted first period t h (suc (b - 1)) (omega arith) in
    absurd (omega arith))
    (λ g. by_le a (suc b)
    (λ m. omega arith)
    (λ m. let u : first + suc b * period ≤ t = counted-comes first period t h (suc b) m in
    let v : b < b = release-counted first period (t - period) h b (omega arith) in
    absurd (omega arith)))

-- counting by how late a release is at t, or by when it comes, is the same
pub late-counted : (period x y t : ℕ) → y ≤ t → releases_by (suc t - y) period (suc t - x) ≡ releases_by x period y
unfolding releases_by
late-counted period x y t l =
    by_le x y
    (λ h. let e : suc t - x - (suc t - y) ≡ y - x = omega arith in rw (le-leb x y h, le-leb (suc t - y) (suc t - x) (omega arith), e))
    (λ h. rw (lt-leb x y h, lt-leb (suc t - y) (suc t - x) (omega arith)))

-- equal values but at k, where one is one less
pub sum-one-less : (f g : ℕ → ℕ) (n k : ℕ) → k < n → f k ≡ suc (g k) → ((i : ℕ) → i < n → (k ≡ i → ⊥) → f i ≡ g i)
    → sum_to f n ≡ suc (sum_to g n)
unfolding sum_to
sum-one-less f g zero k l e h = absurd (omega arith)
sum-one-less f g (suc n) k l e h =
    by_le (suc k) n
    (λ m. omega (arith, sum-one-less f g n k m e (λ i q d. h i (omega arith) d), h n (omega arith) (λ q. omega arith)))
    (λ m. let q : k ≡ n = omega arith in
    omega (arith, e, ap f q, ap g q, sum-cong f g n (λ i r. h i (omega arith) (λ z. omega arith))))
