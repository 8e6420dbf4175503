-- What a call hands back, in document 01's numbers: number 0 is acceptance.
-- Assumes nothing.
use Rattle.std.specs.Prelude.{ℕ, Bool, not, List, ◌++◌, eqb, ℤ, pos, drop, Result, Ok, Err, is_ok}
use Rattle.ground.specs.Choice.{pick}
use Rattle.kinds.specs.declared.Refusal.{Refusal}
use Rattle.kinds.specs.Refusal.{number_of, place_of}

-- what a finder answers: the step of an accepted plan, or the refusal
abbrev pub Answer : Type 0
Answer = Result ℕ Refusal

-- yes, or the refusal
abbrev pub Verdict : Type 0
Verdict = Result (Unit {0}) Refusal

-- a count, of rows or of bytes, or the refusal
abbrev pub Counted : Type 0
Counted = Result ℕ Refusal

-- what the margin answers: a signed number, or the refusal
abbrev pub Margin : Type 0
Margin = Result ℤ Refusal

-- number, place, and the value: a step, a margin, a count or a sheet
pub record Handed (A : Type 0) : Type 0 where
  pub number : ℕ
  pub place : ℕ
  pub value : A

abbrev pub accepted : {A : Type 0} → A → Handed A
accepted v = record { number = 0; place = 0; value = v }

-- document 01: "A refusal's step, margin or written length is 0."
abbrev pub refused : {A : Type 0} → A → Refusal → Handed A
refused nothing r = record { number = number_of r; place = place_of r; value = nothing }

-- one check in a chain of refusals: where the test of a number holds that number's refusal is handed back, else the rest
abbrev pub check : {A : Type 0} → Bool → A → A → A
check test refusal rest = pick test refusal rest

-- the same where something has to hold
abbrev pub demanded : {A : Type 0} → A → Bool → Refusal → Handed A → Handed A
demanded nothing test refusal rest = check (not test) (refused nothing refusal) rest

-- a refusal that comes first, with nothing for its value, else what comes of the value
abbrev pub unrefused : {A B : Type 0} → B → Handed A → (A → Handed B) → Handed B
unrefused nothing h rest = pick (eqb h.number 0) (rest h.value) (record { number = h.number; place = h.place; value = nothing })

abbrev pub handed : Answer → Handed ℕ
handed (Ok step) = accepted step
handed (Err r) = refused 0 r

abbrev pub is_accepted : Answer → Bool
is_accepted answer = is_ok answer

abbrev pub step_of : Answer → ℕ
step_of (Ok step) = step
step_of (Err r) = 0

abbrev pub handed_margin : Margin → Handed ℤ
handed_margin (Ok x) = accepted x
handed_margin (Err r) = refused (pos 0) r

-- a verdict beside the value of an acceptance, or what a refusal hands back for it
abbrev pub handed_with : {A : Type 0} → Verdict → A → Handed A
handed_with (Ok _) x = accepted x
handed_with (Err r) x = refused x r

-- a verdict alone has no value beside its number and place
abbrev pub NumberAndPlace : Type 0
NumberAndPlace = Handed (Unit {0})

abbrev pub handed_verdict : Verdict → NumberAndPlace
handed_verdict v = handed_with v tt

abbrev pub handed_count : Counted → Handed ℕ
handed_count (Ok n) = accepted n
handed_count (Err r) = refused 0 r

-- "An accepted call writes an output up to the entries or bytes needed and no further"; in a refusal "lent buffers keep their bytes"
abbrev pub after : {A B : Type 0} → Handed A → List B → ℕ → List B → List B
after h front n old = pick (eqb h.number 0) (front ++ drop n old) old
