-- Document 01, "Margin", for every input.
-- Assumes nothing.
use Rattle.std.specs.Prelude.{ℕ, false, List, ℤ, pos, Ok, Err}
use Rattle.kinds.specs.declared.Task.{Task}
use Rattle.kinds.specs.declared.Settings.{Settings}
use Rattle.kinds.specs.Answer.{Handed, accepted, refused, Verdict}
use Rattle.policy.specs.Under.{margin_under}
use Rattle.admission.specs.Admission.{admission}

-- an admitted call is answered by the margin
abbrev pub reported : Verdict → ℤ → Handed ℤ
reported (Err r) x = refused (pos 0) r
reported (Ok _) x = accepted x

-- at step k, of the first n of some records. Nothing is lent, so refusal 5 is never given; policy 4 is not served
unfoldable pub margin_handed : Settings → List Task → ℕ → ℕ → Handed ℤ
margin_handed s rows n k = reported (admission false s rows n n) (margin_under s rows n k)
