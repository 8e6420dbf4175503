-- The digits of a number are those of its tenth and then its last; a number below 10 to the power k has at most k.
-- Assumes nothing.
use Rattle.ground.proofs.Kit.{ℕ, zero, suc, ◌+◌, ◌*◌, ◌/◌, ◌%◌, ◌^◌, ◌≤◌, ◌<◌, List, [], ◌∷◌, ◌++◌, ◌≡◌, refl, ◌∙◌, ap, arith, length, set, length-append, lt-ltb}
use Rattle.ground.proofs.Kit.{le-ltb}
use native.Mathlib.Nat.{pow-suc, one-le-pow}
use Rattle.ground.proofs.Cases.{by_le}
use Rattle.field.specs.Handover.{stored, Put}
use Rattle.field.proofs.Stores.{put_then}
use Rattle.numeral.specs.Decimal.{last_digit, digits_in, decimal}

-- more places than a number counts change nothing
enough : (f g n : ℕ) → n ≤ f → n ≤ g → digits_in f n ≡ digits_in g n
unfolding digits_in
enough zero zero n a b = refl
enough zero (suc g) n a b = simp (lt-ltb n 10 (omega arith))
enough (suc f) zero n a b = simp (lt-ltb n 10 (omega arith))
enough (suc f) (suc g) n a b =
    let tenth : 10 ≤ n → digits_in f (n / 10) ≡ digits_in g (n / 10) = λ h. enough f g (n / 10) (omega arith) (omega arith) in
    by_le 10 n (λ h. simp (le-ltb n 10 h) (ap (λ (l : List ℕ). l ++ last_digit n) (tenth h))) (λ h. simp (lt-ltb n 10 h))

pub one-digit : (n : ℕ) → n < 10 → decimal n ≡ last_digit n
unfolding decimal digits_in
one-digit zero h = refl
one-digit (suc n) h = simp (lt-ltb (suc n) 10 h)

pub more-digits : (n : ℕ) → 10 ≤ n → decimal n ≡ decimal (n / 10) ++ last_digit n
unfolding decimal digits_in
more-digits zero h = absurd (omega arith)
more-digits (suc n) h =
    simp (le-ltb (suc n) 10 h)
    (ap (λ (l : List ℕ). l ++ last_digit (suc n)) (enough n (suc n / 10) (suc n / 10) (omega arith) (omega arith)))

pub one-long : (n : ℕ) → n < 10 → length (decimal n) ≡ 1
one-long n h = ap length (one-digit n h)

pub more-long : (n : ℕ) → 10 ≤ n → length (decimal n) ≡ length (decimal (n / 10)) + 1
more-long n h = ap length (more-digits n h) ∙ length-append (decimal (n / 10)) (last_digit n)

pub few-digits : (k n : ℕ) → n < 10 ^ suc k → length (decimal n) ≤ suc k
few-digits zero n h = let e = one-long n h in omega arith
few-digits (suc k) n h =
    let tenth : 10 ≤ n → length (decimal (n / 10)) ≤ suc k = λ l. few-digits k (n / 10) (let p = pow-suc 10 (suc k) in omega arith) in
    by_le 10 n (λ l. omega (arith, more-long n l, tenth l)) (λ l. omega (arith, one-long n l))

many-digits : (k n : ℕ) → 10 ^ k ≤ n → suc k ≤ length (decimal n)
many-digits zero n h = by_le 10 n (λ l. omega (arith, more-long n l)) (λ l. omega (arith, one-long n l))
many-digits (suc k) n h =
    let tenth : 10 ^ k ≤ n / 10 = (let p = pow-suc 10 k in omega arith) in
    omega (arith, more-long n (let p = pow-suc 10 k in let q = one-le-pow k 10 (omega arith) in omega arith), many-digits k (n / 10) tenth)

-- a number has one digit more than the power of ten that it reaches
pub long-by_power : (k n : ℕ) → 10 ^ k ≤ n → n < 10 * 10 ^ k → length (decimal n) ≡ k + 1
long-by_power k n l h = omega (arith, many-digits k n l, few-digits k n (let p = pow-suc 10 k in omega arith))

-- one byte stored
pub put_byte : (out : List ℕ) (at v : ℕ) → Put out at 1 (v ∷ []) (at + 1) (set out at v)
unfolding stored
put_byte out at v = record { next-is = refl; run_long = refl; new_is = refl }

-- one digit, and one after those of the tenth
pub puts_one : (out : List ℕ) (at n : ℕ) → n < 10 → Put out at (length (decimal n)) (decimal n) (at + 1) (set out at (48 + n % 10))
puts_one out at n h = rw (one-digit n h) (put_byte out at (48 + n % 10))

pub puts-more : (out mid : List ℕ) (at next n : ℕ) → 10 ≤ n → Put out at (length (decimal (n / 10))) (decimal (n / 10)) next mid
    → Put out at (length (decimal n)) (decimal n) (next + 1) (set mid next (48 + n % 10))
puts-more out mid at next n h p = rw (more-long n h) (rw (more-digits n h) (put_then p (put_byte mid next (48 + n % 10))))
