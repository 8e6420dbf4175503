-- What the admission hands each call beside its answer.
-- Assumes nothing.
use Rattle.kinds.specs.Answer.{Verdict}
use Rattle.std.specs.Prelude.{ℕ, Bool, List, ◌≡◌, Ok}
use Rattle.kinds.specs.declared.Task.{Task}
use Rattle.kinds.specs.declared.Settings.{Settings}
use Rattle.share.specs.Table.{priced_rows}
use Rattle.springs.specs.declared.Springs.{Springs}
use Rattle.springs.specs.Handover.{Sprung}
use Rattle.admission.specs.Admission.{admission}

-- the admission of a call with room for so many entries, and where it admits the springs
pub record AdmittedSprung (serves : Bool) (s : Settings) (rows : List Task) (n room : ℕ) (a : Verdict) (springs : Springs) : Type 0 where
  pub is : a ≡ admission serves s rows n room
  pub sprung : a ≡ (Ok tt) → Sprung (priced_rows s.swap rows n) n springs
  pub notch : springs.notch ≡ s.notch
