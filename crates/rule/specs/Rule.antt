-- Document 01, "Numbers on a task": its rules on plain numbers.
-- Assumes nothing.
use Rattle.std.specs.Prelude.{ℕ, ◌-◌, ◌*◌, ◌%◌, ◌≤◌, max, ◌≡◌, eqb}
use Rattle.ground.specs.Choice.{pick}
use Rattle.ground.specs.Rounding.{ceil_div}
use Rattle.kinds.specs.Limits.{scale}

-- the greatest cost whose parts 64 bits hold, and how many parts that is
abbrev pub most_cost : ℕ
most_cost = 1000000000000

abbrev pub most_parts : ℕ
most_parts = most_cost * scale

-- cost × S / period rounded up: the largest share at Tmin, the least share at Tmax
abbrev pub part_of : ℕ → ℕ → ℕ
part_of cost period = ceil_div (cost * scale) period

-- the larger of the least share and (largest share − k × E), the latter taken as 0 when negative
abbrev pub share_of : ℕ → ℕ → ℕ → ℕ → ℕ
share_of largest least e k = max least (largest - k * e)

-- (largest − least) / E rounded up; a task with E = 0 has none, for which 0 stands
abbrev pub saturation_of : ℕ → ℕ → ℕ → ℕ
saturation_of largest least e = pick (eqb e 0) 0 (ceil_div (largest - least) e)

-- cost × S / share rounded up, held to Tmin
abbrev pub period_of : ℕ → ℕ → ℕ → ℕ
period_of cost tmin share = max tmin (ceil_div (cost * scale) share)

-- in words: the smallest whole T from Tmin to Tmax with cost × S ≤ share × T
pub record Shortest (cost tmin tmax share t : ℕ) : Type 0 where
  pub low : tmin ≤ t
  pub high : t ≤ tmax
  pub enough : cost * scale ≤ share * t
  pub only : (x : ℕ) → tmin ≤ x → cost * scale ≤ share * x → t ≤ x

-- the smallest multiple of q from t on
abbrev pub notched_up : ℕ → ℕ → ℕ
notched_up q t = ceil_div t q * q

-- Ask 5, in words: the smallest multiple of q from Tmin to Tmax with cost × S ≤ share × T
pub record ShortestOn (q cost tmin tmax share t : ℕ) : Type 0 where
  pub on : t % q ≡ 0
  pub low : tmin ≤ t
  pub high : t ≤ tmax
  pub enough : cost * scale ≤ share * t
  pub only : (x : ℕ) → x % q ≡ 0 → tmin ≤ x → cost * scale ≤ share * x → t ≤ x
