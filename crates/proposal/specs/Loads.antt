-- What a proposal puts on each processor, over the loads and the proposed processors of tasks by number. Processors are counted from 1.
-- Assumes nothing.
use Rattle.std.specs.Prelude.{ℕ, ◌+◌, ◌≤◌, ◌<◌, Bool, List, ltb, eqb}
use Rattle.ground.specs.Choice.{pick, either}
use Rattle.ground.specs.First.{first_below}
use Rattle.ground.specs.Folds.{sum_to, list_to}
use Rattle.kinds.specs.Limits.{scale}

-- the load of task i where it is proposed for processor p, else nothing
abbrev pub put_on : (ℕ → ℕ) → (ℕ → ℕ) → ℕ → ℕ → ℕ
put_on load place p i = pick (eqb (place i) p) (load i) 0

-- the load of processor p: of the first n tasks, those proposed for it
unfoldable pub processor_load : (ℕ → ℕ) → (ℕ → ℕ) → ℕ → ℕ → ℕ
processor_load load place n p = sum_to (put_on load place p) n

-- the loads of processors 1 to m
unfoldable pub loads_to : (ℕ → ℕ) → (ℕ → ℕ) → ℕ → ℕ → List ℕ
loads_to load place n m = list_to (λ j. processor_load load place n (j + 1)) m

-- a processor that is not 1 to m
abbrev pub is_out_of_range : ℕ → ℕ → Bool
is_out_of_range m p = either (ltb p 1) (ltb m p)

-- the first task whose processor is not 1 to m; n where there is none
unfoldable pub first_out_of_range : ℕ → (ℕ → ℕ) → ℕ → ℕ
first_out_of_range m place n = first_below (λ i. is_out_of_range m (place i)) n

-- a load that is above S
abbrev pub is_overfull : ℕ → Bool
is_overfull load = ltb scale load

-- how many processors come before the lowest overfull one; m where none is overfull
unfoldable pub before_overfull : (ℕ → ℕ) → (ℕ → ℕ) → ℕ → ℕ → ℕ
before_overfull load place n m = first_below (λ j. is_overfull (processor_load load place n (j + 1))) m

-- a processor from 1 to m
pub record InRange (m p : ℕ) : Type 0 where
  pub some : 1 ≤ p
  pub most : p ≤ m

-- Ask 7: "each processor is from 1 to m and each load is at most S"
pub record Sound (load place : ℕ → ℕ) (n m : ℕ) : Type 0 where
  pub each : (i : ℕ) → i < n → InRange m (place i)
  pub most : (p : ℕ) → InRange m p → processor_load load place n p ≤ scale
