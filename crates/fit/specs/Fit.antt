-- Document 01's placing rule, over the loads of tasks by number.
-- Assumes nothing.
use Rattle.std.specs.Prelude.{ℕ, zero, suc, ◌+◌, Bool, List, leb, eqb, get_or, set, replicate}
use Rattle.ground.specs.First.{first_below}
use Rattle.ground.specs.Folds.{list_to}
use Rattle.kinds.specs.Limits.{scale, most_processors}

-- the load of task i in a run of loads
abbrev pub load_in : List ℕ → ℕ → ℕ
load_in loads i = get_or loads i 0

-- the processor j, counted from 0, has room for a load: with it, it is at most S
abbrev pub has_room : List ℕ → ℕ → ℕ → Bool
has_room loads load j = leb (get_or loads j 0 + load) scale

-- the lowest-numbered of m processors that has room; m where none has
unfoldable pub lowest_room : ℕ → List ℕ → ℕ → ℕ
lowest_room m loads load = first_below (has_room loads load) m

-- the loads of the processors once a further load stands at j
abbrev pub loaded : List ℕ → ℕ → ℕ → List ℕ
loaded loads j load = set loads j (get_or loads j 0 + load)

-- the loads of the processors after the first i tasks, in record order
unfoldable pub loads_after : ℕ → (ℕ → ℕ) → ℕ → List ℕ
loads_after m load zero = replicate most_processors 0
loads_after m load (suc i) = loaded (loads_after m load i) (lowest_room m (loads_after m load i) (load i)) (load i)

-- where task i goes, counted from 0; m where it fits nowhere
unfoldable pub place_at : ℕ → (ℕ → ℕ) → ℕ → ℕ
place_at m load i = lowest_room m (loads_after m load i) (load i)

-- the first task that fits nowhere; n where every task is placed
unfoldable pub stuck_at : ℕ → (ℕ → ℕ) → ℕ → ℕ
stuck_at m load n = first_below (λ i. leb m (place_at m load i)) n

-- every task is placed
unfoldable pub fits : ℕ → (ℕ → ℕ) → ℕ → Bool
fits m load n = eqb (stuck_at m load n) n

-- the processors of the first n tasks, numbered from 1
unfoldable pub places_to : ℕ → (ℕ → ℕ) → ℕ → List ℕ
places_to m load n = list_to (λ i. place_at m load i + 1) n
