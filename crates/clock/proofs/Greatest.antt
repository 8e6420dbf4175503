-- The task that is most late, the lowest on a tie: what `latest` says, and the walk that works it out.
-- Assumes nothing.
use Rattle.ground.proofs.Kit.{ℕ, suc, ◌+◌, ◌-◌, ◌≤◌, ◌<◌, Bool, [], ◌∷◌, ◌≡◌, sym, ◌∙◌, ap, arith, rules, eqb, ltb, ltb-true, ltb-false, true, false, eq-eqb, ne_eqb, eqb-true, Option, None, Some}
use borrow.Author.Tests.{eqb-false}
use Rattle.ground.specs.First.{first_below, IsFirst}
use Rattle.ground.specs.Folds.{max_to}
use Rattle.ground.proofs.Cases.{by_le, by-eq, true-false}
use Rattle.ground.proofs.First.{first-is, first-unique, first_cong}
use Rattle.ground.proofs.Folds.{max_none, max-more, le-max-to, max-reached, max-cong}
use Rattle.std.specs.Option.{IfSome, MatchOption, option_map, option_to_list}
use Rattle.std.specs.Bool.{IsTrue}
use Rattle.clock.specs.Ticks.{latest}
use Rattle.clock.specs.Handover.{late_of}

-- task i is the most late of n, and each before it is less late
pub record Most (f : ℕ → ℕ) (n i : ℕ) : Type 0 where
  pub there : i < n
  pub greatest : f i ≡ max_to f n
  pub lowest : (j : ℕ) → j < i → f j < max_to f n

module _ (f : ℕ → ℕ) (n : ℕ) where
  abbrev has : ℕ → Bool
  has i = eqb (f i) (max_to f n)

  -- the first that has the greatest lateness
  most-first : (i : ℕ) → Most f n i → i ≡ first_below has n
  most-first i m =
      first-unique has n i (first_below has n)
      (record {
        last = omega (arith, m.there);
        there = λ _. eq-eqb (f i) (max_to f n) m.greatest;
        before = λ j l. ne_eqb (f j) (max_to f n) (λ e. omega (arith, m.lowest j l));
      })
      (first-is has n)

  first-most : 0 < max_to f n → Most f n (first_below has n)
  first-most h =
      let p : IsFirst has n (first_below has n) = first-is has n in
      let r = max-reached f n (max_to f n - 1) (omega arith) in
      let e : f r.0 ≡ max_to f n = omega (arith, r.2, le-max-to f n r.0 r.1) in
      let l : first_below has n < n =
      by_le (suc (first_below has n)) n (λ g. g)
      (λ g. true-false (eq-eqb (f r.0) (max_to f n) e) (p.before r.0 (omega (arith, r.1)))) in
      record {
        there = l;
        greatest = eqb-true (f (first_below has n)) (max_to f n) (p.there l);
        lowest = λ j g. by_le (max_to f n) (f j)
            (λ b. absurd (eqb-false (f j) (max_to f n) (p.before j g) (omega (arith, le-max-to f n j (omega arith)))))
            (λ b. b);
      }

  -- none is late, or one is the most late
  pub latest-none : max_to f n ≡ 0 → latest f n ≡ []
  unfolding latest
  latest-none e = rw (eq-eqb (max_to f n) 0 e)

  pub latest-first : 0 < max_to f n → latest f n ≡ first_below has n ∷ []
  unfolding latest
  latest-first h = rw (ne_eqb (max_to f n) 0 (λ e. omega arith))

  -- the two cases
  pub by-latest : {X : Type 0} → (latest f n ≡ [] → ((i : ℕ) → i < n → f i ≡ 0) → X)
      → ((i : ℕ) → latest f n ≡ i ∷ [] → 0 < f i → Most f n i → X) → X
  by-latest none one =
      by-eq (max_to f n) 0
      (λ e. none (latest-none e) (λ i l. omega (arith, le-max-to f n i l)))
      (λ d. let h : 0 < max_to f n = by_le 1 (max_to f n) (λ g. g) (λ g. absurd (d (omega arith))) in
      let m = first-most h in
      one (first_below has n) (latest-first h) (omega (arith, m.greatest)) m)

-- it looks at the n tasks only
pub latest-cong : (f g : ℕ → ℕ) (n : ℕ) → ((i : ℕ) → i < n → f i ≡ g i) → latest f n ≡ latest g n
unfolding latest
latest-cong f g n h =
    let m = max-cong f g n h in
    let w = first_cong (λ i. eqb (f i) (max_to g n)) (λ i. eqb (g i) (max_to g n)) n (λ i l. ap (λ (x : ℕ). eqb x (max_to g n)) (h i l)) in
    rw (m, w)

-- a walk over the tasks that has come to i: the latest so far with the ticks that it is behind, or none
pub record Walked (f : ℕ → ℕ) (i : ℕ) (held : Option (ℕ × ℕ)) : Type 0 where
  pub is : late_of (option_map (λ h. h.1) held) ≡ max_to f i
  pub of : IfSome held (λ h. Most f i h.0)

-- whether a task that is due is later than the latest so far
later : (ticks : ℕ) (held : Option (ℕ × ℕ)) (b : Bool) → MatchOption held (IsTrue b) (λ h. b ≡ ltb h.1 ticks)
    → b ≡ ltb (late_of (option_map (λ h. h.1) held)) (suc ticks)
later ticks None b e = search rules
later ticks (Some h) b e = search rules

pub later-is : (ticks : ℕ) (held : Option (ℕ × ℕ)) (b : Bool) → MatchOption held (IsTrue b) (λ h. b ≡ ltb h.1 ticks) → b ≡ true
    → late_of (option_map (λ h. h.1) held) < suc ticks
later-is ticks held b e t = ltb-true _ _ (sym (later ticks held b e) ∙ t)

pub later-not : (ticks : ℕ) (held : Option (ℕ × ℕ)) (b : Bool) → MatchOption held (IsTrue b) (λ h. b ≡ ltb h.1 ticks) → b ≡ false
    → suc ticks ≤ late_of (option_map (λ h. h.1) held)
later-not ticks held b e t = ltb-false _ _ (sym (later ticks held b e) ∙ t)

module _ (f : ℕ → ℕ) where
  pub walked_none : Walked f 0 None
  walked_none = record { is = sym (max_none f); of = tt }

  -- a task that is later than those before it
  pub walked_here : (i ticks : ℕ) (held : Option (ℕ × ℕ)) → suc ticks ≡ f i → late_of (option_map (λ h. h.1) held) < suc ticks → Walked f i held
      → Walked f (i + 1) (Some (i, ticks))
  walked_here i ticks held e m w =
      let x : max_to f (i + 1) ≡ suc ticks = omega (arith, max-more f i, w.is) in
      record {
        is = sym x;
        of = record { there = omega arith; greatest = sym e ∙ sym x; lowest = λ j g. omega (arith, le-max-to f i j g, w.is) };
      }

  -- one that is not
  pub walked-past : (i : ℕ) (held : Option (ℕ × ℕ)) → f i ≤ late_of (option_map (λ h. h.1) held) → Walked f i held → Walked f (i + 1) held
  walked-past i held m w = record { is = w.is ∙ sym (more i held m w); of = kept held m w }
    where
      more : (i : ℕ) (held : Option (ℕ × ℕ)) → f i ≤ late_of (option_map (λ h. h.1) held) → Walked f i held → max_to f (i + 1) ≡ max_to f i
      more i held m w = omega (arith, max-more f i, w.is)

      kept : (held : Option (ℕ × ℕ)) → f i ≤ late_of (option_map (λ h. h.1) held) → Walked f i held → IfSome held (λ h. Most f (i + 1) h.0)
      kept None m w = tt
      kept (Some h) m w =
          let x = more i (Some h) m w in
          record { there = omega (arith, w.of.there); greatest = w.of.greatest ∙ sym x; lowest = λ j g. omega (arith, w.of.lowest j g, x) }

  -- the whole walk
  pub walked_all : (i n : ℕ) (held : Option (ℕ × ℕ)) → i ≡ n → Walked f i held → option_to_list (option_map (λ h. h.0) held) ≡ latest f n
  walked_all i n None e w = sym (latest-none f n (omega (arith, w.is, ap (max_to f) e)))
  walked_all i n (Some h) e w =
      let m : Most f n h.0 = rw e at w.of in
      ap (λ (t : ℕ). t ∷ []) (most-first f n h.0 m) ∙ sym (latest-first f n (omega (arith, w.is, ap (max_to f) e)))
