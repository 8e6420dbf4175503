-- What first fit is handed, and what it hands back.
-- Assumes nothing.
use Rattle.std.specs.Prelude.{ℕ, ◌≤◌, ◌<◌, List, ◌++◌, ◌≡◌, drop, replicate}
use Rattle.kinds.specs.Limits.{scale, most_tasks}
use Rattle.fit.specs.declared.Fit.{Fit}
use Rattle.fit.specs.Fit.{load_in, stuck_at, fits, places_to}

-- a run of loads, of which those of n tasks come first, none above S
pub record Loads (loads : List ℕ) (n : ℕ) : Type 0 where
  pub few : n ≤ most_tasks
  pub most : (i : ℕ) → i < n → load_in loads i ≤ scale

-- how the trial ends: those before the first that fits nowhere are placed, the other places are zeros
pub record FitIs (m : ℕ) (load : ℕ → ℕ) (n : ℕ) (r : Fit) : Type 0 where
  pub placed : r.placed ≡ fits m load n
  pub places : r.processors ≡ places_to m load (stuck_at m load n) ++ drop (stuck_at m load n) (replicate most_tasks 0)
