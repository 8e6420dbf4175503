-- Choices by a test.
-- Assumes nothing.
use Rattle.std.specs.Prelude.{ℕ, Bool, true, false}

-- the first where the test holds, else the second
abbrev pub pick : {A : Type 0} → Bool → A → A → A
pick true a b = a
pick false a b = b

-- 1 where the test holds, else 0
abbrev pub bit : Bool → ℕ
bit true = 1
bit false = 0

abbrev pub both : Bool → Bool → Bool
both a b = pick a b false

abbrev pub either : Bool → Bool → Bool
either a b = pick a true b
