-- The same for a task that needs several cores: what a reason says of it, `wide-reason-says`; and none is given exactly where it is good,
-- `wide-good-reason` and `wide-reason-good`.
-- Assumes nothing.
use Rattle.ground.proofs.Kit.{◌*◌, true, ◌≡◌, subst, le-leb, lt-leb, lt-ltb, le-ltb, None}
use Rattle.ground.proofs.Cases.{by_le}
use Rattle.kinds.specs.Limits.{longest_period, greatest_elasticity}
use Rattle.wide_task.specs.declared.WideTask.{WideTask}
use Rattle.wide_task.specs.Limits.{most_tmins}
use Rattle.wide_task.specs.WideTask.{is_good}
use Rattle.wide_task.proofs.Records.{good-is, is-good}
use Rattle.reason.specs.WideReason.{rest_reason, wide_reason_of, Spans, WideSays}

module _ (t : WideTask) where
  -- one that keeps the limits of its span
  rest-says : Spans t → WideSays t (rest_reason t)
  unfolding rest_reason
  rest-says s =
      by_le t.c (most_tmins * t.tmin)
      (λ c.
      rw (le-ltb (most_tmins * t.tmin) t.c c)
      (by_le t.tmin t.tmax
      (λ x.
      rw (le-ltb t.tmax t.tmin x)
      (by_le t.tmax longest_period
      (λ y.
      rw (le-ltb longest_period t.tmax y)
      (by_le t.e greatest_elasticity
      (λ z.
      rw (le-ltb greatest_elasticity t.e z)
      (record { l-some = s.0; l-tmin = s.1; l-c = s.2; tmax-c = s.3; c-most = c; tmin-tmax = x; tmax-most = y; e-most = z }))
      (λ z. rw (lt-ltb greatest_elasticity t.e z) (s, c, x, y, z))))
      (λ y. rw (lt-ltb longest_period t.tmax y) (s, c, x, y))))
      (λ x. rw (lt-ltb t.tmax t.tmin x) (s, c, x))))
      (λ c. rw (lt-ltb (most_tmins * t.tmin) t.c c) (s, c))

  -- the first limit that is broken
  pub wide-reason-says : WideSays t (wide_reason_of t)
  unfolding wide_reason_of
  wide-reason-says =
      by_le 1 t.l
      (λ l.
      rw (le-ltb t.l 1 l)
      (by_le t.tmin t.l
      (λ m. rw (le-leb t.tmin t.l m) (l, m))
      (λ m.
      rw (lt-leb t.tmin t.l m)
      (by_le t.c t.l
      (λ c. rw (le-leb t.c t.l c) (l, m, c))
      (λ c.
      rw (lt-leb t.c t.l c)
      (by_le t.c t.tmax
      (λ x. rw (le-leb t.c t.tmax x) (l, m, c, x))
      (λ x. rw (lt-leb t.c t.tmax x) (rest-says (l, m, c, x)))))))))
      (λ l. rw (lt-ltb t.l 1 l) l)

  -- none is given where the test holds, and only there
  pub wide-good-reason : is_good t ≡ true → wide_reason_of t ≡ None
  unfolding wide_reason_of rest_reason
  wide-good-reason g =
      let good = good-is t g in
      rw (
        le-ltb t.l 1 good.l-some,
        lt-leb t.tmin t.l good.l-tmin,
        lt-leb t.c t.l good.l-c,
        lt-leb t.c t.tmax good.tmax-c,
        le-ltb (most_tmins * t.tmin) t.c good.c-most,
        le-ltb t.tmax t.tmin good.tmin-tmax,
        le-ltb longest_period t.tmax good.tmax-most,
        le-ltb greatest_elasticity t.e good.e-most,
      )

  pub wide-reason-good : wide_reason_of t ≡ None → is_good t ≡ true
  wide-reason-good e = is-good t (subst (WideSays t) e wide-reason-says)
