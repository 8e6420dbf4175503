-- The springs that stand in the columns.
-- Assumes nothing.
use Rattle.std.specs.Prelude.{ℕ}
use Rattle.ground.specs.Folds.{max_to}
use Rattle.springs.specs.declared.Spring.{Spring}
use Rattle.springs.specs.declared.Springs.{Springs}
use Rattle.springs.specs.Allowed.{spring_over}

-- the spring number i
unfoldable pub spring_in : Springs → ℕ → Spring
spring_in s i = spring_over s.largest s.least s.elasticity s.saturation s.cost s.tmin i

-- the greatest of the first n saturation steps
abbrev pub full_in : Springs → ℕ → ℕ
full_in s n = max_to (λ i. (spring_in s i).saturation) n
