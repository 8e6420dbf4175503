-- The limits of a task that needs several cores. `wide_task::limits` shows that the code has the same.
-- Assumes nothing.
use Rattle.std.specs.Prelude.{ℕ, ◌+◌, ◌*◌, ◌-◌}
use Rattle.kinds.specs.Limits.{scale, longest_period}

-- Ask 4: "C at most 16 × Tmin"
abbrev pub most_tmins : ℕ
most_tmins = 16

-- the largest share that the limits allow: 16 processors
abbrev pub most_share : ℕ
most_share = most_tmins * scale

-- Ask 4: "K is at most 14,999,999": a share is above S
abbrev pub most_steps : ℕ
most_steps = most_share - (scale + 1)

-- the most cores that the limits allow, at a cost of 16 × Tmin and a span of Tmin − 1
abbrev pub most_cores : ℕ
most_cores = (most_tmins - 1) * longest_period + 1
