-- No second answer meets what a join or a leave promises: what is told, read as a call's own numbers, settles every field.
-- Assumes nothing.
use mathlib.Core.Path.{◌≡◌, sym, ◌∙◌}
use Rattle.kinds.specs.Answer.{Handed}
use Rattle.keep.specs.declared.Kept.{Kept}
use Rattle.c_kept.specs.declared.ToldChange.{ToldChange}
use Rattle.c_kept.specs.Kept.{told_change}

pub told-change-one : (h : Handed Kept) (r q : ToldChange) → told_change r ≡ h → told_change q ≡ h → r ≡ q
told-change-one h r q a b = let e = a ∙ sym b in λ i. record { number = (e i).number; place = (e i).place; kept = (e i).value }
