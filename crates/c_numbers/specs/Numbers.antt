-- Settings, verdicts and counts in numbers that cross to C.
-- Assumes nothing.
use Rattle.std.specs.Prelude.{ℕ, List, ◌≡◌, Result, Ok, Err}
use Rattle.kinds.specs.declared.Refusal.{Refusal}
use Rattle.kinds.specs.declared.Settings.{Settings}
use Rattle.kinds.specs.Answer.{Handed, NumberAndPlace, Verdict}
use Rattle.kinds.specs.Policy.{policy_of}
use Rattle.kinds.specs.Settings.{settings}
use Rattle.c_numbers.specs.declared.Station.{Station}
use Rattle.c_numbers.specs.declared.ToldVerdict.{ToldVerdict}
use Rattle.c_numbers.specs.declared.ToldCount.{ToldCount}

abbrev pub station_settings : Station → Settings
station_settings s = settings (policy_of s.policy) s.m s.w s.q s.edition

abbrev pub told_verdict : ToldVerdict → NumberAndPlace
told_verdict r = record { number = r.number; place = r.place; value = tt }

-- whether an answer accepts, or its refusal
abbrev pub verdict_of : {A : Type 0} → Result A Refusal → Verdict
verdict_of (Ok x) = Ok tt
verdict_of (Err r) = Err r

-- number and place, with a value beside them
abbrev pub beside : {A : Type 0} → NumberAndPlace → A → Handed A
beside h x = record { number = h.number; place = h.place; value = x }

abbrev pub told_count : ToldCount → Handed ℕ
told_count r = record { number = r.number; place = r.place; value = r.count }

-- what a call that hands rows or bytes over tells, and its output after it
pub record ToldCounts {A : Type 0} (h : Handed ℕ) (after : List A) (r : ToldCount) (new : List A) : Type 0 where
  pub answers : told_count r ≡ h
  pub leaves : new ≡ after
