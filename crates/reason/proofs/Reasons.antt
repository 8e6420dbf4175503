-- What a reason says of a record, `reason-says`; and none is given exactly where the record is good, `good-reason` and `reason-good`.
-- Assumes nothing.
use Rattle.ground.proofs.Kit.{ℕ, ◌+◌, ◌*◌, ◌%◌, ◌≤◌, true, ◌≡◌, subst, arith, eq-eqb, ne_eqb, leb-true, lt-ltb, le-ltb, None}
use Rattle.ground.proofs.Cases.{by_le, by-eq, both_true}
use Rattle.kinds.specs.declared.Task.{Task}
use Rattle.kinds.specs.Limits.{longest_period, greatest_elasticity}
use Rattle.kinds.specs.Task.{priced, Good, is_within, is_good}
use Rattle.kinds.proofs.Records.{good-is, notch-is, is-good}
use Rattle.reason.specs.Reason.{notch_reason, reason_of, Says}

module _ (w q : ℕ) (t : Task) where
  -- a record that keeps document 01's limits
  on-notch : 1 ≤ t.c → Good (priced w t) → Says w q t (notch_reason q t)
  unfolding notch_reason
  on-notch some good =
      by-eq q 0
      (λ z. rw (eq-eqb q 0 z) (some, good, z))
      (λ z.
      let one : 1 ≤ q = by_le 1 q (λ l. l) (λ l. absurd (z (omega arith))) in
      rw (ne_eqb q 0 z)
      (by-eq (t.tmin % q) 0
      (λ a. rw (eq-eqb (t.tmin % q) 0 a)
      (by-eq (t.tmax % q) 0
      (λ b. rw (eq-eqb (t.tmax % q) 0 b) (some, good, record { some = one; tmin-on = a; tmax-on = b }))
      (λ b. rw (ne_eqb (t.tmax % q) 0 b) (some, good, one, a, b))))
      (λ a. rw (ne_eqb (t.tmin % q) 0 a) (some, good, one, a))))

  -- the first limit that is broken
  pub reason-says : Says w q t (reason_of w q t)
  unfolding reason_of
  reason-says =
      by_le 1 t.c
      (λ c.
      rw (le-ltb t.c 1 c)
      (by_le (t.c + 2 * w) t.tmin
      (λ d.
      rw (le-ltb t.tmin (t.c + 2 * w) d)
      (by_le t.tmin t.tmax
      (λ x.
      rw (le-ltb t.tmax t.tmin x)
      (by_le t.tmax longest_period
      (λ y.
      rw (le-ltb longest_period t.tmax y)
      (by_le t.e greatest_elasticity
      (λ z.
      rw (le-ltb greatest_elasticity t.e z)
      (on-notch c (record { c-some = omega arith; c-tmin = d; tmin-tmax = x; tmax-most = y; e-most = z })))
      (λ z. rw (lt-ltb greatest_elasticity t.e z) (c, d, x, y, z))))
      (λ y. rw (lt-ltb longest_period t.tmax y) (c, d, x, y))))
      (λ x. rw (lt-ltb t.tmax t.tmin x) (c, d, x))))
      (λ d. rw (lt-ltb t.tmin (t.c + 2 * w) d) (c, d))))
      (λ c. rw (lt-ltb t.c 1 c) c)

  cost-some : is_good w q t ≡ true → 1 ≤ t.c
  unfolding is_good is_within
  cost-some e =
      let within = (both_true _ _ e).0 in
      let limits = (both_true _ _ (both_true _ _ (both_true _ _ within).0).0).0 in
      leb-true _ _ (both_true _ _ limits).0

  -- none is given where the test holds, and only there
  pub good-reason : 1 ≤ q → is_good w q t ≡ true → reason_of w q t ≡ None
  unfolding reason_of notch_reason
  good-reason one g =
      let good = good-is w q t g in
      let on = notch-is w q t one g in
      let zero : q ≡ 0 → ⊥ = λ z. omega arith in
      rw (
        le-ltb t.c 1 (cost-some g),
        le-ltb t.tmin (t.c + 2 * w) good.c-tmin,
        le-ltb t.tmax t.tmin good.tmin-tmax,
        le-ltb longest_period t.tmax good.tmax-most,
        le-ltb greatest_elasticity t.e good.e-most,
        ne_eqb q 0 zero,
        eq-eqb (t.tmin % q) 0 on.tmin-on,
        eq-eqb (t.tmax % q) 0 on.tmax-on,
      )

  pub reason-good : reason_of w q t ≡ None → is_good w q t ≡ true
  reason-good e =
      let says = subst (Says w q t) e reason-says in
      is-good w q t says.0 says.1 says.2
