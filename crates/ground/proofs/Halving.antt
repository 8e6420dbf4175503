-- Halving the range of a rising test gives its least step: a pass keeps the middle and what is below, a failure what is above. The tests
-- that it makes are counted, and few.
-- Assumes nothing.
use Rattle.ground.proofs.Kit.{ℕ, zero, suc, ◌+◌, ◌-◌, ◌^◌, ◌≤◌, ◌<◌, Bool, true, false, ◌≡◌, refl, sym, ◌∙◌, ap, arith, lt-ltb, le-ltb, Some, None}
use native.Mathlib.Nat.{two-pow-succ}
use Rattle.ground.specs.Least.{least_up_to, Rising}
use Rattle.ground.specs.Halving.{middle, tests_from, tests_made}
use Rattle.ground.proofs.Cases.{by_bool, by_le, true-false}
use Rattle.ground.proofs.Least.{least-here, least-none}

-- halving the steps from 0 to K + 1, where K + 1 stands for none, has come to the steps `from` to `to`: no step below the first passes,
-- and the last does unless it stands for none
pub record Halved (test : ℕ → Bool) (K from to : ℕ) : Type 0 where
  pub order : from ≤ to
  pub last : to ≤ K + 1
  pub below : (j : ℕ) → j < from → test j ≡ false
  pub there : to ≤ K → test to ≡ true

-- the middle lies in the range
pub middle-in : (from to : ℕ) → from < to → (from ≤ middle from to) × (middle from to < to)
middle-in from to h = (omega arith, omega arith)

-- at first the range is whole
pub halved-all : (test : ℕ → Bool) (K : ℕ) → Halved test K 0 (K + 1)
halved-all test K =
    record { order = omega arith; last = omega arith; below = λ j l. absurd (omega arith); there = λ l. absurd (omega arith) }

module _ (test : ℕ → Bool) (K from to : ℕ) (s : Halved test K from to) where
  pub halved-pass : from < to → test (middle from to) ≡ true → Halved test K from (middle from to)
  halved-pass h p =
      let m = middle-in from to h in
      record { order = m.0; last = omega (arith, m.1, s.last); below = s.below; there = λ _. p }

  -- no step below a middle that fails passes, since passing would stay
  pub halved-fail : Rising test → from < to → test (middle from to) ≡ false → Halved test K (middle from to + 1) to
  halved-fail up h f =
      let m = middle-in from to h in
      record {
        order = omega (arith, m.1);
        last = s.last;
        below = λ j l. by_bool (test j) (λ p. true-false (up j (middle from to) (omega arith) p) f) (λ p. p);
        there = s.there;
      }

  -- one step is left: it is the least, or none passes
  pub halved-found : to ≤ from → from ≤ K → Some from ≡ least_up_to test K
  halved-found h l =
      let e : to ≡ from = omega (arith, s.order) in
      least-here test K from s.below l (rw e at (s.there (omega arith)))

  pub halved_none : to ≤ from → K < from → None ≡ least_up_to test K
  halved_none h l = least-none test K from s.below l

-- the tests made, one at a time
pub tests-done : (test : ℕ → Bool) (more from to : ℕ) → to ≤ from → tests_from test more from to ≡ 0
unfolding tests_from
tests-done test zero from to h = refl
tests-done test (suc more) from to h = rw (tests_from, le-ltb from to h)

module _ (test : ℕ → Bool) (more from to : ℕ) (l : from < to) where
  pub tests-pass : test (middle from to) ≡ true → tests_from test (suc more) from to ≡ 1 + tests_from test more from (middle from to)
  unfolding tests_from
  tests-pass p = rw (tests_from, lt-ltb from to l, p)

  pub tests-fail : test (middle from to) ≡ false → tests_from test (suc more) from to ≡ 1 + tests_from test more (middle from to + 1) to
  unfolding tests_from
  tests-fail p = rw (tests_from, lt-ltb from to l, p)

tests-zero : (test : ℕ → Bool) (from to : ℕ) → tests_from test 0 from to ≡ 0
unfolding tests_from
tests-zero test from to = refl

-- what is kept is at most half as wide
narrower : (c from to : ℕ) → from < to → to - from < 2 ^ suc c → (middle from to - from < 2 ^ c) × (to - (middle from to + 1) < 2 ^ c)
narrower c from to l h = (omega (arith, two-pow-succ c), omega (arith, two-pow-succ c))

-- a range of fewer than 2 to the power c steps after the first takes at most c tests
pub tests-few : (test : ℕ → Bool) (c more from to : ℕ) → to - from < 2 ^ c → tests_from test more from to ≤ c
tests-few test zero more from to h = omega (arith, tests-done test more from to (omega arith))
tests-few test (suc c) zero from to h = omega (arith, tests-zero test from to)
tests-few test (suc c) (suc more) from to h =
    by_le to from
    (λ l. omega (arith, tests-done test (suc more) from to l))
    (λ l.
    let n = narrower c from to l h in
    by_bool (test (middle from to))
    (λ p. omega (arith, tests-pass test more from to l p, tests-few test c more from (middle from to) n.0))
    (λ p. omega (arith, tests-fail test more from to l p, tests-few test c more (middle from to + 1) to n.1)))

-- Ask 10: "never over 20"
pub made-few : (test : ℕ → Bool) (K : ℕ) → K ≤ 999999 → tests_made test K ≤ 20
unfolding tests_made
made-few test K h = tests-few test 20 (K + 1) 0 (K + 1) (omega arith)

-- tests that agree make as many
tests-cong : (f g : ℕ → Bool) (more from to : ℕ) → ((k : ℕ) → f k ≡ g k) → tests_from f more from to ≡ tests_from g more from to
tests-cong f g zero from to h = tests-zero f from to ∙ sym (tests-zero g from to)
tests-cong f g (suc more) from to h =
    by_le to from
    (λ l. tests-done f (suc more) from to l ∙ sym (tests-done g (suc more) from to l))
    (λ l.
    let m = middle from to in
    by_bool (g m)
    (λ p. tests-pass f more from to l (h m ∙ p) ∙ (ap (λ (x : ℕ). 1 + x) (tests-cong f g more from m h) ∙ sym (tests-pass g more from to l p)))
    (λ p. tests-fail f more from to l (h m ∙ p) ∙ (ap (λ (x : ℕ). 1 + x) (tests-cong f g more (m + 1) to h) ∙ sym (tests-fail g more from to l p))))

pub made-cong : (f g : ℕ → Bool) (K : ℕ) → ((k : ℕ) → f k ≡ g k) → tests_made f K ≡ tests_made g K
unfolding tests_made
made-cong f g K h = tests-cong f g (K + 1) 0 (K + 1) h

-- halving has come to the steps `from` to `to` with so many tests made: those that are left make up the rest
pub record Counted (test : ℕ → Bool) (K from to looks : ℕ) : Type 0 where
  pub halved : Halved test K from to
  pub more : ℕ
  pub enough : to ≤ from + more
  pub made : looks + tests_from test more from to ≡ tests_made test K

pub counted-all : (test : ℕ → Bool) (K : ℕ) → Counted test K 0 (K + 1) 0
unfolding tests_made
counted-all test K = record { halved = halved-all test K; more = K + 1; enough = omega arith; made = omega arith }

module _ (test : ℕ → Bool) (K from to looks : ℕ) (s : Counted test K from to looks) where
  pub counted-pass : from < to → test (middle from to) ≡ true → Counted test K from (middle from to) (looks + 1)
  counted-pass l p = by s.more s.enough s.made
    where
      by : (more : ℕ) → to ≤ from + more → looks + tests_from test more from to ≡ tests_made test K → Counted test K from (middle from to) (looks + 1)
      by zero e m = absurd (omega arith)
      by (suc more) e m =
          record {
            halved = halved-pass test K from to s.halved l p;
            more = more;
            enough = omega arith;
            made = omega (arith, m, tests-pass test more from to l p);
          }

  pub counted-fail : Rising test → from < to → test (middle from to) ≡ false → Counted test K (middle from to + 1) to (looks + 1)
  counted-fail up l p = by s.more s.enough s.made
    where
      by : (more : ℕ) → to ≤ from + more → looks + tests_from test more from to ≡ tests_made test K → Counted test K (middle from to + 1) to (looks + 1)
      by zero e m = absurd (omega arith)
      by (suc more) e m =
          record {
            halved = halved-fail test K from to s.halved up l p;
            more = more;
            enough = omega arith;
            made = omega (arith, m, tests-fail test more from to l p);
          }

  pub counted-done : to ≤ from → looks ≡ tests_made test K
  counted-done h = omega (arith, s.made, tests-done test s.more from to h)

  -- no more than are made in all
  pub counted-few : looks ≤ tests_made test K
  counted-few = omega (arith, s.made)
