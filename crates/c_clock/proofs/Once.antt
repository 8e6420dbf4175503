-- No second answer meets what a start or a call promises: what is told, read as a call's own numbers, settles every field.
-- Assumes nothing.
use Prim.Native.Nat.{ℕ}
use mathlib.Core.Path.{◌≡◌, sym, ◌∙◌}
use Rattle.kinds.specs.Answer.{Handed}
use Rattle.clock.specs.declared.Clock.{Clock}
use Rattle.c_clock.specs.declared.ToldStart.{ToldStart}
use Rattle.c_clock.specs.declared.ToldCall.{ToldCall}
use Rattle.c_clock.specs.Clocked.{told_start, ToldCallIs}

pub told-start-one : (h : Handed Clock) (r q : ToldStart) → told_start r ≡ h → told_start q ≡ h → r ≡ q
told-start-one h r q a b = let e = a ∙ sym b in λ i. record { number = (e i).number; place = (e i).place; clock = (e i).value }

pub told-call-one : (c : Clock) (present : ℕ) (r q : ToldCall) → ToldCallIs c present r → ToldCallIs c present q → r ≡ q
told-call-one c present r q a b =
    let n = a.number_is ∙ sym b.number_is in
    let d = a.due-is ∙ sym b.due-is in
    let t = a.task-is ∙ sym b.task-is in
    let p = a.place_is ∙ sym b.place_is in
    let x = a.leaves ∙ sym b.leaves in
    λ i. record { number = n i; due = d i; task = t i; place = p i; clock = x i }
