-- More room than there are tasks changes nothing of the plain finder's answer to a sheet.
-- Assumes nothing.
use Rattle.ground.proofs.Kit.{ℕ, ◌≤◌, true, ◌≡◌, arith, le-ltb}
use Rattle.kinds.specs.declared.Sheet.{Sheet}
use Rattle.admission.specs.Admission.{admission}
use Rattle.outcome.specs.Plan.{found}
use Rattle.plain_finder.specs.Asked.{asked}

pub asked-roomy : (x : Sheet) (room : ℕ) → x.table.n ≤ room → found true x.settings x.table.rows x.table.n room ≡ asked x
unfolding asked found admission
asked-roomy x room h =
    let n = x.table.n in
    rw (le-ltb room n h, le-ltb n n (omega arith))
