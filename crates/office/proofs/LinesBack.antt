-- A line that was read is a task's line (`line-got`), and a task's line is read as that task (`line-back`).
-- Assumes nothing.
use Rattle.ground.proofs.Kit.{ℕ, ◌+◌, ◌≤◌, ◌<◌, List, [], ◌∷◌, ◌++◌, append_assoc, ◌≡◌, refl, sym, ◌∙◌, ap, arith, length, drop, length-append, length-drop, Option, Some, None}
use Rattle.kinds.specs.declared.Task.{Task}
use Rattle.kinds.specs.Task.{task}
use Rattle.std.proofs.lemmas.Option.{some_pair_parts}
use Rattle.numeral.specs.Decimal.{decimal}
use Rattle.numeral.specs.Scan.{numeral_at}
use Rattle.numeral.proofs.Numerals.{Got, numeral-got, numeral-back, rest_back}
use Rattle.office.specs.Text.{comma, newline, number_then, line_of, Fits}
use Rattle.office.specs.Reading.{line_at}
use Rattle.office.proofs.Lines.{bad-c, bad-tmin, bad-tmax, bad-e, good-line}
use Rattle.office.proofs.Widths.{line-long}

number-before : (v end : ℕ) (rest : List ℕ) → decimal v ++ (end ∷ rest) ≡ number_then v end ++ rest
unfolding number_then
number-before v end rest = sym (append_assoc (decimal v) (end ∷ []) rest)

-- what a line that was read says
pub record LineGot (s : List ℕ) (at : ℕ) (t : Task) (next : ℕ) : Type 0 where
  pub fits : Fits t
  pub text : drop at s ≡ line_of t ++ drop next s
  pub on : at < next
  pub inside : next ≤ length s

-- four numbers one after the other are a line
line-joined : (c tmin tmax e : ℕ) (s : List ℕ) (at at-tmin at-tmax at-e next : ℕ) → Got s at comma c at-tmin → Got s at-tmin comma tmin at-tmax
    → Got s at-tmax comma tmax at-e → Got s at-e newline e next → LineGot s at (task c tmin tmax e) next
unfolding line_of
line-joined c tmin tmax e s at at-tmin at-tmax at-e next g₁ g₂ g₃ g₄ =
    record {
      fits = record { c = g₁.small; tmin = g₂.small; tmax = g₃.small; e = g₄.small };
      text =
          (g₁.text ∙ number-before c comma (drop at-tmin s))
          ∙ (ap (λ (x : List ℕ). number_then c comma ++ x) (g₂.text ∙ number-before tmin comma (drop at-tmax s))
          ∙ (ap (λ (x : List ℕ). number_then c comma ++ (number_then tmin comma ++ x)) (g₃.text ∙ number-before tmax comma (drop at-e s))
          ∙ (ap (λ (x : List ℕ). number_then c comma ++ (number_then tmin comma ++ (number_then tmax comma ++ x)))
          (g₄.text ∙ number-before e newline (drop next s))
          ∙ simp append_assoc)));
      on = omega (arith, g₁.on, g₂.on, g₃.on, g₄.on);
      inside = g₄.inside;
    }

module _ (s : List ℕ) (at : ℕ) (t : Task) (next : ℕ) (k : line_at s at ≡ Some (t, next)) where
  never : line_at s at ≡ None → LineGot s at t next
  never b = absurd (let z : ◌≡◌ {A = ℕ} 0 1 = cc in omega arith)

  by-e : (c at-tmin tmin at-tmax tmax at-e : ℕ) → numeral_at s at comma ≡ Some (c, at-tmin) → numeral_at s at-tmin comma ≡ Some (tmin, at-tmax)
      → numeral_at s at-tmax comma ≡ Some (tmax, at-e) → (f : Option (ℕ × ℕ)) → numeral_at s at-e newline ≡ f → LineGot s at t next
  by-e c at-tmin tmin at-tmax tmax at-e e₁ e₂ e₃ None f = never (bad-e s at c at-tmin e₁ tmin at-tmax e₂ tmax at-e e₃ f)
  by-e c at-tmin tmin at-tmax tmax at-e e₁ e₂ e₃ (Some (e, n)) f =
      let w = good-line s at c at-tmin e₁ tmin at-tmax e₂ tmax at-e e₃ e n f in
      let same = some_pair_parts (task c tmin tmax e) t n next (sym w ∙ k) in
      rw (← same.0, ← same.1)
      (line-joined c tmin tmax e s at at-tmin at-tmax at-e n
      (numeral-got s at comma (omega arith) c at-tmin e₁)
      (numeral-got s at-tmin comma (omega arith) tmin at-tmax e₂)
      (numeral-got s at-tmax comma (omega arith) tmax at-e e₃)
      (numeral-got s at-e newline (omega arith) e n f))

  by-tmax : (c at-tmin tmin at-tmax : ℕ) → numeral_at s at comma ≡ Some (c, at-tmin) → numeral_at s at-tmin comma ≡ Some (tmin, at-tmax)
      → (f : Option (ℕ × ℕ)) → numeral_at s at-tmax comma ≡ f → LineGot s at t next
  by-tmax c at-tmin tmin at-tmax e₁ e₂ None f = never (bad-tmax s at c at-tmin e₁ tmin at-tmax e₂ f)
  by-tmax c at-tmin tmin at-tmax e₁ e₂ (Some (tmax, at-e)) f =
      by-e c at-tmin tmin at-tmax tmax at-e e₁ e₂ f (numeral_at s at-e newline) refl

  by-tmin : (c at-tmin : ℕ) → numeral_at s at comma ≡ Some (c, at-tmin) → (f : Option (ℕ × ℕ)) → numeral_at s at-tmin comma ≡ f → LineGot s at t next
  by-tmin c at-tmin e₁ None f = never (bad-tmin s at c at-tmin e₁ f)
  by-tmin c at-tmin e₁ (Some (tmin, at-tmax)) f = by-tmax c at-tmin tmin at-tmax e₁ f (numeral_at s at-tmax comma) refl

  by-c : (f : Option (ℕ × ℕ)) → numeral_at s at comma ≡ f → LineGot s at t next
  by-c None f = never (bad-c s at f)
  by-c (Some (c, at-tmin)) f = by-tmin c at-tmin f (numeral_at s at-tmin comma) refl

  pub line-got : LineGot s at t next
  line-got = by-c (numeral_at s at comma) refl

-- a task's line is read as that task
module _ (s : List ℕ) (at : ℕ) (t : Task) (rest : List ℕ) (m : Fits t) (k : drop at s ≡ line_of t ++ rest) where
  abbrev at-tmin : ℕ
  at-tmin = at + length (decimal t.c) + 1

  abbrev at-tmax : ℕ
  at-tmax = at-tmin + length (decimal t.tmin) + 1

  abbrev at-e : ℕ
  at-e = at-tmax + length (decimal t.tmax) + 1

  abbrev at_next : ℕ
  at_next = at-e + length (decimal t.e) + 1

  -- what stands after each number
  abbrev past-tmax : List ℕ
  past-tmax = decimal t.e ++ (newline ∷ rest)

  abbrev past-tmin : List ℕ
  past-tmin = decimal t.tmax ++ (comma ∷ past-tmax)

  abbrev past-c : List ℕ
  past-c = decimal t.tmin ++ (comma ∷ past-tmin)

  front : drop at s ≡ decimal t.c ++ (comma ∷ past-c)
  unfolding line_of number_then
  front = k ∙ simp append_assoc

  after-c : drop at-tmin s ≡ past-c
  after-c = rest_back s at comma t.c past-c refl m.c front

  after-tmin : drop at-tmax s ≡ past-tmin
  after-tmin = rest_back s at-tmin comma t.tmin past-tmin refl m.tmin after-c

  after-tmax : drop at-e s ≡ past-tmax
  after-tmax = rest_back s at-tmax comma t.tmax past-tmax refl m.tmax after-tmin

  ends : at_next ≡ at + length (line_of t)
  ends = omega (arith, line-long t)

  pub line-back : line_at s at ≡ Some (t, at + length (line_of t))
  line-back =
      good-line s at
      t.c at-tmin (numeral-back s at comma t.c past-c refl m.c front)
      t.tmin at-tmax (numeral-back s at-tmin comma t.tmin past-tmin refl m.tmin after-c)
      t.tmax at-e (numeral-back s at-tmax comma t.tmax past-tmax refl m.tmax after-tmin)
      t.e at_next (numeral-back s at-e newline t.e rest refl m.e after-tmax)
      ∙ ap (λ (place : ℕ). Some (t, place)) ends

  pub line-rest : drop (at + length (line_of t)) s ≡ rest
  line-rest = ap (λ (x : ℕ). drop x s) (sym ends) ∙ rest_back s at-e newline t.e rest refl m.e after-tmax

  pub line-starts : at < length s
  line-starts = omega (arith, length-drop at s, ap length k, length-append (line_of t) rest, line-long t)

-- a bad line is no task's
pub no_line : (s : List ℕ) (at : ℕ) → line_at s at ≡ None → (t : Task) → Fits t → (rest : List ℕ) → drop at s ≡ line_of t ++ rest → ⊥
no_line s at b t m rest k = let w = line-back s at t rest m k in let z : ◌≡◌ {A = ℕ} 0 1 = cc in omega arith
