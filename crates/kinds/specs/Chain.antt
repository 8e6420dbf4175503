-- Document 01, "Numbers we hand back": "Checks run in this order", and each number is "given exactly when" its sentence holds; a chain is the checks
-- of a call in that order, and `Exactly` says what the call hands back by it.
-- Assumes nothing.
use Rattle.std.specs.Prelude.{ℕ, ◌≤◌, ◌<◌, Bool, true, false, List, [], ◌∷◌, ◌≡◌, length, get_or, Ok, Err}
use Rattle.kinds.specs.declared.Refusal.{Refusal}
use Rattle.kinds.specs.declared.Refusal.TheVariants.{NoSuchPolicy}
use Rattle.kinds.specs.Refusal.{number_of}
use Rattle.kinds.specs.Answer.{Handed, accepted, refused, check, Verdict}

infix 70 ◌when◌
-- one check: a refusal, and the sentence that it is given for
pub record Check : Type 0 where
  pub refusal : Refusal
  pub sentence : Bool

-- a refusal "when" its sentence holds
abbrev pub ◌when◌ : Refusal → Bool → Check
◌when◌ refusal sentence = record { refusal = refusal; sentence = sentence }

-- the refusal of the first check whose sentence holds, and where none does an acceptance, each as a call says it
unfoldable pub first_by : {A : Type 0} → (Refusal → A) → A → List Check → A
first_by refuse accept [] = accept
first_by refuse accept (c ∷ rest) = check c.sentence (refuse c.refusal) (first_by refuse accept rest)

-- as a verdict
abbrev pub first_of : List Check → Verdict
first_of chain = first_by Err (Ok tt) chain

-- as number, place and value, with nothing for the value of a refusal
abbrev pub handed_by : {A : Type 0} → A → A → List Check → Handed A
handed_by nothing value chain = first_by (refused nothing) (accepted value) chain

-- check number i of a chain; past its end stands one whose sentence never holds
abbrev pub check_at : List Check → ℕ → Check
check_at chain i = get_or chain i (NoSuchPolicy when false)

-- the sentence of check i holds, and that of no earlier one does
pub record GivenAt (chain : List Check) (i : ℕ) : Type 0 where
  pub there : i < length chain
  pub holds : (check_at chain i).sentence ≡ true
  pub none-earlier : (j : ℕ) → j < i → (check_at chain j).sentence ≡ false

-- no sentence of a chain holds
abbrev pub NoneHolds : List Check → Type 0
NoneHolds chain = (i : ℕ) → i < length chain → (check_at chain i).sentence ≡ false

-- one of the checks that have a number gives it; two of a chain may have the same
pub record Given (chain : List Check) (number : ℕ) : Type 0 where
  pub place : ℕ
  pub given : GivenAt chain place
  pub numbered : number_of (check_at chain place).refusal ≡ number

-- "given exactly when": a call accepts where no sentence holds and only there, and hands back a number where it is given and only there
pub record Exactly {A : Type 0} (chain : List Check) (nothing value : A) (h : Handed A) : Type 0 where
  pub accepted-where : NoneHolds chain → h ≡ accepted value
  pub accepted-only : h.number ≡ 0 → NoneHolds chain
  pub refused-where : (i : ℕ) → GivenAt chain i → h ≡ refused nothing (check_at chain i).refusal
  pub refused-only : (number : ℕ) → 1 ≤ number → h.number ≡ number → Given chain number

-- the numbers of a chain, in its order
abbrev pub numbers_given : List Check → List ℕ
numbers_given [] = []
numbers_given (c ∷ rest) = number_of c.refusal ∷ numbers_given rest
