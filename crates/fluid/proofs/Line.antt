-- The line of parts: a stretch of it has as many parts as it is long, however it is cut into processors.
-- Assumes nothing.
use Rattle.ground.proofs.Kit.{ℕ, zero, suc, ◌+◌, ◌-◌, ◌*◌, ◌≤◌, ◌<◌, min, Bool, true, false, ◌≡◌, refl, ap, mul-le-mul_right, arith, leb, ltb, le-leb, lt-leb}
use Rattle.ground.proofs.Kit.{leb-true, lt-ltb, le-ltb, ltb-true}
use Rattle.ground.specs.Choice.{bit, either}
use Rattle.ground.specs.Folds.{count_to, any_to}
use Rattle.ground.proofs.Cases.{by_bool, by_le, both_true}
use Rattle.ground.proofs.Folds.{count-split, count_none}
use Rattle.ground.proofs.Tests.{any-finds}
use Rattle.fluid.specs.Wrapped.{is_in}

-- a place that the test finds in the stretch is in it
pub in-found : (a b x : ℕ) → is_in a b x ≡ true → (a ≤ x) × (x < b)
in-found a b x e =
    let tests = both_true (leb a x) (ltb x b) e in
    (leb-true a x tests.0, ltb-true x b tests.1)

-- and the other way round
pub in-passes : (a b x : ℕ) → a ≤ x → x < b → is_in a b x ≡ true
in-passes a b x l h = rw (le-leb a x l, lt-ltb x b h)

-- how much of the stretch from a to b lies before place x
abbrev pub before : ℕ → ℕ → ℕ → ℕ
before a b x = min x b - min x a

-- a place of the stretch adds one to it
before-next : (a b x : ℕ) → before a b (suc x) ≡ before a b x + bit (is_in a b x)
before-next a b x =
    by_le a x
    (λ l. by_le (suc x) b
    (λ h. rw (le-leb a x l, lt-ltb x b h) (omega arith))
    (λ h. rw (le-leb a x l, le-ltb x b (omega arith)) (omega arith)))
    (λ l. rw (lt-leb a x l) (omega arith))

-- so n places from x on have as many of it as lie before their end and not before x
places : (a b x n : ℕ) → before a b x + count_to (λ q. is_in a b (x + q)) n ≡ before a b (x + n)
unfolding count_to
places a b x zero = omega arith
places a b x (suc n) =
    let end : x + suc n ≡ suc (x + n) = omega arith in
    omega (arith, places a b x n, before-next a b (x + n), ap (before a b) end)

-- a test that does not hold where another does
apart-bits : (p q : Bool) → (p ≡ true → q ≡ false) → bit (either p q) ≡ bit p + bit q
apart-bits true q h = rw (h refl)
apart-bits false q h = omega arith

module _ (a b S : ℕ) (short : b ≤ a + S) where
  -- a stretch no longer than a processor has part q of one processor at most
  one-processor : (p q : ℕ) → any_to (λ k. is_in a b (k * S + q)) p ≡ true → is_in a b (p * S + q) ≡ false
  one-processor p q some =
      let found = any-finds (λ k. is_in a b (k * S + q)) p some in
      let first = in-found a b (found.0 * S + q) found.2 in
      by_bool (is_in a b (p * S + q))
      (λ e. absurd (omega (arith, in-found a b (p * S + q) e, first, mul-le-mul_right S found.1)))
      (λ e. e)

  -- so over the parts of a processor it has, on one of the first p, as many as lie on these
  pub wraps : (p : ℕ) → count_to (λ q. any_to (λ k. is_in a b (k * S + q)) p) S ≡ before a b (p * S)
  unfolding any_to
  wraps zero = omega (arith, count_none (λ q. false) S (λ q l. refl))
  wraps (suc p) =
      let more = count-split (λ q. either (any_to (λ k. is_in a b (k * S + q)) p) (is_in a b (p * S + q)))
      (λ q. any_to (λ k. is_in a b (k * S + q)) p) (λ q. is_in a b (p * S + q)) S
      (λ q l. apart-bits _ _ (one-processor p q)) in
      let end : p * S + S ≡ suc p * S = omega arith in
      omega (arith, more, wraps p, places a b (p * S) S, ap (before a b) end)
