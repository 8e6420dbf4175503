-- The five policies, their numbers, and the further choice.
-- Assumes nothing.
use Rattle.std.specs.Prelude.{ℕ, Bool, true, false, ◌≡◌, eqb}
use Rattle.ground.specs.Choice.{pick}
use Rattle.kinds.specs.declared.Policy.{Policy}
use Rattle.kinds.specs.declared.Policy.TheVariants.{Pooled, GlobalEdf, GlobalRm, FirstFit, OneCoreRm, Further}

-- what a number stands for; one outside 1 to 5 is kept in the further choice
abbrev pub policy_of : ℕ → Policy
policy_of q =
    pick (eqb q 1) Pooled
    (pick (eqb q 2) GlobalEdf (pick (eqb q 3) GlobalRm (pick (eqb q 4) FirstFit (pick (eqb q 5) OneCoreRm (Further q)))))

-- the number that a policy is written as
abbrev pub policy_number : Policy → ℕ
policy_number Pooled = 1
policy_number GlobalEdf = 2
policy_number GlobalRm = 3
policy_number FirstFit = 4
policy_number OneCoreRm = 5
policy_number (Further q) = q

-- document 01: "a further choice holding 1 to 4 means that policy"; Ask 1: and one holding 5
abbrev pub meant : Policy → Policy
meant p = policy_of (policy_number p)

-- what a policy is, a line for each: its test weighs the sum and the max against a bound, on m processors or on one; it places tasks by first fit;
-- Ask 8: "Global RM is withdrawn"; or it is none of the five
abbrev pub by_kind : {A : Type 0} → A → A → A → A → A → Policy → A
by_kind weighed on_one placed withdrawn none Pooled = weighed
by_kind weighed on_one placed withdrawn none GlobalEdf = weighed
by_kind weighed on_one placed withdrawn none GlobalRm = withdrawn
by_kind weighed on_one placed withdrawn none FirstFit = placed
by_kind weighed on_one placed withdrawn none OneCoreRm = on_one
by_kind weighed on_one placed withdrawn none (Further q) = none

-- policies 1, 2 and 5
abbrev pub is_weighed : Policy → Bool
is_weighed p = by_kind true true false false false p

-- policy 4
abbrev pub is_first_fit : Policy → Bool
is_first_fit p = by_kind false false true false false p

-- policy 5
abbrev pub is_one_core : Policy → Bool
is_one_core p = by_kind false true false false false p

abbrev pub is_withdrawn : Policy → Bool
is_withdrawn p = by_kind false false false true false p

-- none of the five
abbrev pub is_further : Policy → Bool
is_further p = by_kind false false false false true p

-- a policy that is served is placed by first fit, or weighed
abbrev pub Served : Policy → Type 0
Served p = is_first_fit p ≡ false → is_weighed p ≡ true
