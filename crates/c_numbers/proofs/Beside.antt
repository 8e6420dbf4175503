-- A verdict in numbers, with a value beside it, is what the verdict hands back with that value.
-- Assumes nothing.
use Rattle.std.specs.Prelude.{Ok, Err}
use mathlib.Core.Path.{◌≡◌, refl, ap, ◌∙◌}
use Rattle.kinds.specs.Answer.{NumberAndPlace, handed_verdict, handed_with, Verdict}
use Rattle.c_numbers.specs.declared.ToldVerdict.{ToldVerdict}
use Rattle.c_numbers.specs.Numbers.{told_verdict, beside}

verdict-beside : {A : Type 0} (v : Verdict) (x : A) → beside (handed_verdict v) x ≡ handed_with v x
verdict-beside (Ok _) x = refl
verdict-beside (Err q) x = refl

pub told-beside : {A : Type 0} (v : Verdict) (x : A) (t : ToldVerdict) → told_verdict t ≡ handed_verdict v → beside (told_verdict t) x ≡ handed_with v x
told-beside v x t e = ap (λ (h : NumberAndPlace). beside h x) e ∙ verdict-beside v x
