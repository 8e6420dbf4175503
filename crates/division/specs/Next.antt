-- The next saturation step above a step.
-- Assumes nothing.
use Rattle.std.specs.Prelude.{ℕ, zero, suc, ◌≤◌, ◌<◌, min, ◌≡◌, leb, Option, Some, None}
use Rattle.ground.specs.Choice.{pick}

-- q is the least of the first n saturation steps that are above p
pub record Next (saturation : ℕ → ℕ) (n p q : ℕ) : Type 0 where
  pub above : p < q
  pub by : ℕ
  pub by-below : by < n
  pub is : saturation by ≡ q
  pub least : (i : ℕ) → i < n → p < saturation i → q ≤ saturation i

-- the lesser of what was found before and x
abbrev pub lesser : Option ℕ → ℕ → ℕ
lesser None x = x
lesser (Some found) x = min found x

-- the nearer to p of what was found before and x
unfoldable pub nearer : ℕ → Option ℕ → ℕ → Option ℕ
nearer p before x = pick (leb x p) before (Some (lesser before x))

-- found by a walk over the tasks
unfoldable pub next_to : (ℕ → ℕ) → ℕ → ℕ → Option ℕ
next_to saturation p zero = None
next_to saturation p (suc n) = nearer p (next_to saturation p n) (saturation n)
