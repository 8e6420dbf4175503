-- A sheet filled in, or its refusal, with the buffer after it: that no second answer meets the promise of `fill_in`, and what the program
-- makes of it.
-- Assumes nothing.
use Rattle.ground.proofs.Kit.{ℕ, false, List, [], ◌++◌, ◌≡◌, refl, sym, ◌∙◌, ap, arith, eqb, length, drop, ne_eqb, Ok, Err}
use Rattle.kinds.specs.declared.Refusal.{Refusal}
use Rattle.kinds.specs.Refusal.{number_of, place_of}
use Rattle.kinds.specs.Answer.{Handed, refused, Counted}
use Rattle.kinds.proofs.Refusals.{refusal-numbered}
use Rattle.kinds.proofs.Answers.{count-one}
use Rattle.refusal_line.specs.Line.{refusal_line}
use Rattle.refusal_line.specs.Fronts.{Fronts, FrontsOrRefuses}
use Rattle.refusal_line.proofs.Fronts.{fronts}
use Rattle.fill.specs.Fill.{planned, filled, Fills}

-- a refusal leaves the buffer as it was
pub refuses : (h : Handed (List ℕ)) (q : Refusal) → h ≡ refused [] q → (old : List ℕ) → Fills h old (Err q) old
refuses h q e old =
    let not-accepted = ne_eqb (number_of q) 0 (λ z. omega (arith, refusal-numbered q)) in
    rw e (record { answer = refl; output = rw not-accepted; fits = omega arith })

pub fills_one : (h : Handed (List ℕ)) (old : List ℕ) (r q : Counted) (new other : List ℕ) → Fills h old r new → Fills h old q other → (r ≡ q) × (new ≡ other)
fills_one h old r q new other a b = (count-one r q (a.answer ∙ sym b.answer), a.output ∙ sym b.output)

module _ (s old new : List ℕ) where
  -- the filled sheet is what the program writes
  tells-sheet : (k : ℕ) → Fills (planned s) old (Ok k) new → Fronts (filled s) old k new
  unfolding filled
  tells-sheet k p =
      let bytes = (planned s).value in
      let zero : (planned s).number ≡ 0 = sym (ap (λ (h : Handed ℕ). h.number) p.answer) in
      let long : k ≡ length bytes = ap (λ (h : Handed ℕ). h.value) p.answer in
      rw zero
      (fronts bytes old new k long (omega (arith, p.fits, long))
      ((rw zero at p.output) ∙ ap (λ (n : ℕ). bytes ++ drop n old) (sym long)))

  module _ (q : Refusal) (p : Fills (planned s) old (Err q) new) where
    number-told : (planned s).number ≡ number_of q
    number-told = sym (ap (λ (h : Handed ℕ). h.number) p.answer)

    not-accepted : eqb (planned s).number 0 ≡ false
    not-accepted = ne_eqb (planned s).number 0 (λ z. omega (arith, number-told, refusal-numbered q))

    -- of a refusal it writes the line
    tells-line : filled s ≡ refusal_line (number_of q) (place_of q)
    unfolding filled
    tells-line =
        let place : (planned s).place ≡ place_of q = sym (ap (λ (h : Handed ℕ). h.place) p.answer) in
        rw (not-accepted, number-told, place)

    kept : new ≡ old
    kept = rw not-accepted at p.output

  -- what the program writes, as the call hands it on that fills in
  pub tells : (r : Counted) → Fills (planned s) old r new → FrontsOrRefuses (filled s) old r new
  tells (Ok k) p = tells-sheet k p
  tells (Err q) p = (tells-line q p, kept q p)
