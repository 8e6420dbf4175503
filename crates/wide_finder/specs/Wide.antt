-- Demand 2 on a table of tasks that need several cores, whole: what the finder hands back and what it leaves in the two lent outputs, for
-- every input.
-- Assumes nothing.
use Rattle.std.specs.Prelude.{ℕ, min, List, length}
use Rattle.kinds.specs.Answer.{Handed, Verdict}
use Rattle.admission.specs.Admission.{and_then, misset, gate, roomy, judged}
use Rattle.outcome.specs.Plan.{decided, Outcome, settled}
use Rattle.wide_task.specs.declared.WideTask.{WideTask}
use Rattle.wide_finder.specs.Table.{first_bad, least_step, periods_at, core_counts_at}

-- 6
abbrev pub records_good : List WideTask → ℕ → Verdict
records_good rows n = judged (first_bad rows n) n

-- Ask 4: "refusals 2, 3, 5, 6, 7 in that order"
unfoldable pub admission : ℕ → List WideTask → ℕ → ℕ → Verdict
admission m rows n room = and_then (and_then (gate (misset m) n) (roomy n room)) (records_good rows n)

-- the admission, and the least passing step where it admits
unfoldable pub found : ℕ → List WideTask → ℕ → ℕ → Handed ℕ
found m rows n room = decided (admission m rows n room) (least_step m rows n)

-- the finder's call, with the two outputs as they are lent; the second is of processors by their count
unfoldable pub outcome : ℕ → List WideTask → ℕ → List ℕ → List ℕ → Outcome
outcome m rows n periods cores =
    settled (found m rows n (min (length periods) (length cores))) (periods_at rows n) (core_counts_at rows n) n periods cores
