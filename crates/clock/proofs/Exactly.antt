-- "Given exactly when", of a clock's start and of a call: `start-exactly`, `call-exactly`; the numbers are `start-numbers` and `call-numbers`.
-- Assumes nothing.
use Rattle.ground.proofs.Kit.{ℕ, List, [], ◌∷◌, ◌≡◌, refl}
use Rattle.kinds.specs.Chain.{first_by, Exactly, numbers_given}
use Rattle.kinds.proofs.Chains.{exactly}
use Rattle.clock.specs.declared.Clock.{Clock}
use Rattle.clock.specs.Ticks.{latest}
use Rattle.clock.specs.Start.{no_clock, clock_from, started}
use Rattle.clock.specs.Call.{late_at, released}
use Rattle.clock.specs.Chain.{start_chain, call_chain}

-- 3 and 17 at the start are given exactly when their sentences hold, the earlier first
pub start-exactly : (periods : List ℕ) (tick : ℕ) → Exactly (start_chain periods) no_clock (clock_from periods tick) (started periods tick)
unfolding started first_by
start-exactly periods tick = exactly (start_chain periods) no_clock (clock_from periods tick) (started periods tick) refl

-- the numbers of a start, in their order
pub start-numbers : (periods : List ℕ) → numbers_given (start_chain periods) ≡ 3 ∷ 17 ∷ []
start-numbers periods = refl

-- 3 in a call is given exactly when its sentence holds
pub call-exactly : (c : Clock) (present : ℕ) → Exactly (call_chain c) [] (latest (late_at c present) c.n) (released c present)
unfolding released first_by
call-exactly c present = exactly (call_chain c) [] (latest (late_at c present) c.n) (released c present) refl

-- the number of a call
pub call-numbers : (c : Clock) → numbers_given (call_chain c) ≡ 3 ∷ []
call-numbers c = refl
