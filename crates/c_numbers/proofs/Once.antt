-- No second answer meets what a verdict or a count promises: what is told, read as a call's own numbers, settles every field.
-- Assumes nothing.
use Prim.Native.Nat.{ℕ}
use mathlib.Core.List.{List}
use mathlib.Core.Path.{◌≡◌, sym, ◌∙◌}
use Rattle.kinds.specs.Answer.{Handed, NumberAndPlace}
use Rattle.c_numbers.specs.declared.ToldVerdict.{ToldVerdict}
use Rattle.c_numbers.specs.declared.ToldCount.{ToldCount}
use Rattle.c_numbers.specs.Numbers.{told_verdict, ToldCounts}

pub told-verdict-one : (h : NumberAndPlace) (r q : ToldVerdict) → told_verdict r ≡ h → told_verdict q ≡ h → r ≡ q
told-verdict-one h r q a b = let e = a ∙ sym b in λ i. record { number = (e i).number; place = (e i).place }

-- what is written, filled in, imported or exported, with its output
pub told-count-one : {A : Type 0} (h : Handed ℕ) (after : List A) (r q : ToldCount) (new other : List A)
    → ToldCounts h after r new → ToldCounts h after q other → (r ≡ q) × (new ≡ other)
told-count-one h after r q new other a b =
    let e = a.answers ∙ sym b.answers in
    (λ i. record { number = (e i).number; place = (e i).place; count = (e i).value }, a.leaves ∙ sym b.leaves)
