-- Ask 7, whole: what the checker of a proposal hands back and what it leaves in the lent output, for every input.
-- Assumes nothing.
use Rattle.std.specs.Prelude.{ℕ, ◌+◌, List, ◌≡◌, ltb, length, get_or, Ok, Err}
use Rattle.kinds.specs.declared.Task.{Task}
use Rattle.kinds.specs.declared.Settings.{Settings}
use Rattle.kinds.specs.declared.Refusal.TheVariants.{ProcessorOutOfRange, ProcessorOverfull}
use Rattle.kinds.specs.Answer.{NumberAndPlace, check, handed_verdict, after, Verdict}
use Rattle.policy.specs.Under.{loads_under}
use Rattle.admission.specs.Admission.{and_then, misset_numbers, gate, roomy, records_good}
use Rattle.proposal.specs.Loads.{loads_to, first_out_of_range, before_overfull}

-- the processor proposed for task i
abbrev pub place_in : List ℕ → ℕ → ℕ
place_in proposal i = get_or proposal i 0

-- 2, 3 and 5 of a call on n tasks: the policy is not looked at; a proposal has an entry for each task, and then the output room for each of
-- the m loads
abbrev pub gate_of : Settings → ℕ → ℕ → ℕ → Verdict
gate_of s n proposed room = and_then (gate (misset_numbers s) n) (and_then (roomy n proposed) (roomy s.m room))

-- "Refusals 2, 3, 5 (proposal, then load output, too short) and 6 come first"
unfoldable pub admission : Settings → List Task → ℕ → ℕ → ℕ → Verdict
admission s rows n proposed room = and_then (gate_of s n proposed room) (records_good s.swap s.notch rows n)

-- "then 13 names the first task with a processor out of range, then 14 the lowest overfull processor", over any loads
unfoldable pub placing : (ℕ → ℕ) → (ℕ → ℕ) → ℕ → ℕ → Verdict
placing load place n m =
    check (ltb (first_out_of_range m place n) n) (Err (ProcessorOutOfRange (first_out_of_range m place n)))
    (check (ltb (before_overfull load place n m) m) (Err (ProcessorOverfull (before_overfull load place n m + 1)))
    (Ok tt))

-- every check of a proposal at step k, with so much room for the loads
unfoldable pub proposal_verdict : Settings → List Task → ℕ → ℕ → List ℕ → ℕ → Verdict
proposal_verdict s rows n k proposal room =
    and_then (admission s rows n (length proposal) room) (placing (loads_under s rows n k) (place_in proposal) n s.m)

-- number and place, and the lent output as the call leaves it
pub record Outcome : Type 0 where
  pub handed : NumberAndPlace
  pub loads : List ℕ

-- the checker's call: an accepted one writes the m loads
unfoldable pub outcome : Settings → List Task → ℕ → ℕ → List ℕ → List ℕ → Outcome
outcome s rows n k proposal old =
    let h = handed_verdict (proposal_verdict s rows n k proposal (length old)) in
    record { handed = h; loads = after h (loads_to (loads_under s rows n k) (place_in proposal) n s.m) s.m old }

-- a verdict and the output at exit are those of the outcome
pub record Meets (o : Outcome) (v : Verdict) (loads : List ℕ) : Type 0 where
  pub answers : handed_verdict v ≡ o.handed
  pub leaves : loads ≡ o.loads
