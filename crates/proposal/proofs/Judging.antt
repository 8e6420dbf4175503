-- A placing is accepted exactly where Ask 7's sentence holds: `placed-sound` and `sound-placed`; 13 and 14 name the first.
-- Assumes nothing.
use Rattle.ground.proofs.Kit.{ℕ, ◌+◌, ◌-◌, ◌≤◌, ◌<◌, Bool, true, false, ◌≡◌, refl, sym, ap, ◌⊎◌, inl, inr, arith, ltb, lt-ltb, le-ltb, ltb-false, Ok, Err}
use Rattle.ground.specs.First.{IsFirst}
use Rattle.ground.proofs.First.{first-is, first-none}
use Rattle.kinds.specs.Limits.{scale}
use Rattle.kinds.specs.declared.Refusal.{Refusal}
use Rattle.kinds.specs.declared.Refusal.TheVariants.{ProcessorOutOfRange, ProcessorOverfull}
use Rattle.kinds.specs.Answer.{check, handed_verdict, Verdict}
use Rattle.kinds.specs.Refusal.{number_of}
use Rattle.kinds.proofs.Answers.{not-refused}
use Rattle.admission.proofs.Chain.{unchecked}
use Rattle.proposal.specs.Loads.{processor_load, is_out_of_range, first_out_of_range, is_overfull, before_overfull, InRange, Sound}
use Rattle.proposal.specs.Proposal.{placing}
use Rattle.proposal.proofs.Loading.{in-range, range-in}

-- "13 names the first task with a processor out of range": it is, and none before it
pub first-out-of-range : (m : ℕ) (place : ℕ → ℕ) (n : ℕ) → IsFirst (λ i. is_out_of_range m (place i)) n (first_out_of_range m place n)
unfolding first_out_of_range
first-out-of-range m place n = first-is (λ i. is_out_of_range m (place i)) n

-- a verdict of two checks that is refused has one of their numbers
either-of : (t u : Bool) (a b r : Refusal) → ◌≡◌ {A = Verdict} (check t (Err a) (check u (Err b) (Ok tt))) (Err r)
    → (number_of r ≡ number_of a) ⊎ (number_of r ≡ number_of b)
either-of true u a b r e = inl (ap (λ (v : Verdict). (handed_verdict v).number) (sym e))
either-of false true a b r e = inr (ap (λ (v : Verdict). (handed_verdict v).number) (sym e))
either-of false false a b r e = not-refused {A = Unit {0}} tt tt r (ap handed_verdict e)

module _ (load place : ℕ → ℕ) (n m : ℕ) where
  -- "14 the lowest overfull processor": it is, and none below it
  pub lowest-overfull : IsFirst (λ j. is_overfull (processor_load load place n (j + 1))) m (before_overfull load place n m)
  unfolding before_overfull
  lowest-overfull = first-is (λ j. is_overfull (processor_load load place n (j + 1))) m

  -- the three answers
  pub placing-out-of-range : first_out_of_range m place n < n → placing load place n m ≡ Err (ProcessorOutOfRange (first_out_of_range m place n))
  unfolding placing
  placing-out-of-range h = rw (lt-ltb (first_out_of_range m place n) n h)

  module _ (each : n ≤ first_out_of_range m place n) where
    pub placing-overfull : before_overfull load place n m < m → placing load place n m ≡ Err (ProcessorOverfull (before_overfull load place n m + 1))
    unfolding placing
    placing-overfull h = rw (le-ltb (first_out_of_range m place n) n each, lt-ltb (before_overfull load place n m) m h)

    pub placing-well : m ≤ before_overfull load place n m → placing load place n m ≡ (Ok tt)
    unfolding placing
    placing-well h = rw (le-ltb (first_out_of_range m place n) n each, le-ltb (before_overfull load place n m) m h)

  -- it is refused by 13 or by 14 only
  pub placing-refused : (r : Refusal) → placing load place n m ≡ Err r → (number_of r ≡ 13) ⊎ (number_of r ≡ 14)
  unfolding placing
  placing-refused r e =
      let first = first_out_of_range m place n in
      let below = before_overfull load place n m in
      either-of (ltb first n) (ltb below m) (ProcessorOutOfRange first) (ProcessorOverfull (below + 1)) r e

  module _ (each : n ≤ first_out_of_range m place n) where
    -- none is out of range
    pub all-in-range : (i : ℕ) → i < n → InRange m (place i)
    all-in-range i l = in-range m (place i) ((first-out-of-range m place n).before i (omega arith))

  pub placed-sound : placing load place n m ≡ (Ok tt) → Sound load place n m
  unfolding placing
  placed-sound e =
      let a = unchecked _ _ _ e in
      let b = unchecked _ _ _ a.1 in
      let o : m ≤ before_overfull load place n m = ltb-false _ _ b.0 in
      record {
        each = all-in-range (ltb-false _ _ a.0);
        most =
            λ p w.
            let q : p - 1 + 1 ≡ p = omega (arith, w.some) in
            let f : processor_load load place n (p - 1 + 1) ≤ scale = ltb-false _ _ (lowest-overfull.before (p - 1) (omega (arith, w.some, w.most))) in
            rw q at f;
      }

  pub sound-placed : Sound load place n m → placing load place n m ≡ (Ok tt)
  unfolding first_out_of_range before_overfull
  sound-placed s =
      placing-well
      (omega (arith, first-none (λ i. is_out_of_range m (place i)) n n (λ i l. range-in m (place i) (s.each i l)) refl))
      (omega (
        arith,
        first-none (λ j. is_overfull (processor_load load place n (j + 1))) m m
            (λ j l. le-ltb scale _ (s.most (j + 1) (record { some = omega arith; most = omega arith }))) refl,
      ))
