-- The scale and the limits of document 01, "Numbers on a task". `kinds::limits` shows that the code has the same.
-- Assumes nothing.
use Rattle.std.specs.Prelude.{ℕ}

-- S: the parts of one processor
abbrev pub scale : ℕ
scale = 1000000

abbrev pub longest_period : ℕ
longest_period = 1000000000

abbrev pub greatest_elasticity : ℕ
greatest_elasticity = 1000000

abbrev pub most_tasks : ℕ
most_tasks = 32

abbrev pub most_processors : ℕ
most_processors = 16

-- Ask 10: a sheet has 2 to 5 settings
abbrev pub fewest_settings : ℕ
fewest_settings = 2

abbrev pub most_settings : ℕ
most_settings = 5

-- Ask 10: the editions of the charge, "1 or 2"
abbrev pub share_edition : ℕ
share_edition = 1

abbrev pub charge_edition : ℕ
charge_edition = 2
