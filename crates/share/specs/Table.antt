-- Document 01, "Numbers on a task", for the first n of some task records.
-- Assumes nothing.
use Rattle.std.specs.Prelude.{ℕ, not, List}
use Rattle.ground.specs.First.{first_below}
use Rattle.ground.specs.Folds.{max_to, list_to}
use Rattle.kinds.specs.declared.Task.{Task}
use Rattle.kinds.specs.Task.{at, priced, is_good}
use Rattle.share.specs.Share.{share_at, saturation_at, period_at}

-- the share of each task at step k, by number
abbrev pub shares : List Task → ℕ → ℕ → ℕ
shares rows k i = share_at (at rows i) k

-- K: the greatest saturation step, 0 if there is none
unfoldable pub full_compression : List Task → ℕ → ℕ
full_compression rows n = max_to (λ i. saturation_at (at rows i)) n

-- the first record that is not good where a swap costs w and a notch is q; n where each is
unfoldable pub first_bad : ℕ → ℕ → List Task → ℕ → ℕ
first_bad w q rows n = first_below (λ i. not (is_good w q (at rows i))) n

-- the periods at step k, on notches of q
unfoldable pub periods_at : ℕ → List Task → ℕ → ℕ → List ℕ
periods_at q rows n k = list_to (λ i. period_at q (at rows i) k) n

-- the first n records with their swaps paid for: the rules of document 01 are asked of these
unfoldable pub priced_rows : ℕ → List Task → ℕ → List Task
priced_rows w rows n = list_to (λ i. priced w (at rows i)) n
