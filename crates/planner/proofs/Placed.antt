-- A task that is placed has no load left, and the loads that are left are still light.
-- Assumes nothing.
use Rattle.ground.proofs.Kit.{ℕ, zero, suc, ◌≤◌, List, [], ◌∷◌, arith, get_or, set}
use Rattle.fit.specs.Handover.{Loads}

no_more : (loads : List ℕ) (i j : ℕ) → get_or (set loads i 0) j 0 ≤ get_or loads j 0
no_more [] i j = omega arith
no_more (x ∷ loads) zero zero = omega arith
no_more (x ∷ loads) zero (suc j) = omega arith
no_more (x ∷ loads) (suc i) zero = omega arith
no_more (x ∷ loads) (suc i) (suc j) = no_more loads i j

pub still-light : (block : List ℕ) (n i : ℕ) → Loads block n → Loads (set block i 0) n
still-light block n i w = record { few = w.few; most = λ j l. omega (arith, no_more block i j, w.most j l) }
