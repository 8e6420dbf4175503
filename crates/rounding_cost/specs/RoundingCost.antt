-- Ask 13: the exact sums of cost over period and of cost over Tmin, and what they are held against.
-- Assumes nothing.
use Rattle.std.specs.Prelude.{ℕ, ◌+◌, ◌-◌, ◌*◌, Bool, List, get_or}
use Rattle.kinds.specs.declared.Task.{Task}
use Rattle.kinds.specs.declared.Settings.{Settings}
use Rattle.kinds.specs.Limits.{scale}
use Rattle.kinds.specs.Task.{at}
use Rattle.rounding_cost.specs.Exact.{Fraction, out_of, exact_sum, times_at_most}

-- the cost of task i, with its swaps: C + 2w
abbrev pub cost_under : Settings → List Task → ℕ → ℕ
cost_under s rows i = (at rows i).c + 2 * s.swap

-- the exact sum of cost over period of n tasks, whose periods stand in an output
abbrev pub cost_over_period : Settings → List Task → ℕ → List ℕ → Fraction
cost_over_period s rows n periods = exact_sum (λ i. out_of (cost_under s rows i) (get_or periods i 0)) n

-- the exact sum of cost over Tmin
abbrev pub cost_over_tmin : Settings → List Task → ℕ → Fraction
cost_over_tmin s rows n = exact_sum (λ i. out_of (cost_under s rows i) (at rows i).tmin) n

-- "an accepted plan's exact sum of cost over period is at most m"
abbrev pub within_processors : Settings → List Task → ℕ → List ℕ → Bool
within_processors s rows n periods = times_at_most 1 (cost_over_period s rows n periods) s.m

-- "the exact sum of cost over Tmin, times S, is at most m × S − n for n tasks"
abbrev pub spares_parts : Settings → List Task → ℕ → Bool
spares_parts s rows n = times_at_most scale (cost_over_tmin s rows n) (s.m * scale - n)

-- the same with a part less: at most m × S − (n − 1)
abbrev pub spares_fewer_parts : Settings → List Task → ℕ → Bool
spares_fewer_parts s rows n = times_at_most scale (cost_over_tmin s rows n) (s.m * scale - (n - 1))
