-- Halving the range of steps from 0 to K + 1, where K + 1 stands for none, and the tests that it makes.
-- Assumes nothing.
use Rattle.std.specs.Prelude.{ℕ, zero, suc, ◌+◌, ◌/◌, Bool, true, false, ltb}

-- the middle of a range, rounded down
abbrev pub middle : ℕ → ℕ → ℕ
middle from to = (from + to) / 2

-- how many tests it takes until one step is left of those from `from` to `to`: "a pass keeps it and below, a failure what is above". Each
-- test takes a step out at least, so that a range of at most `more` steps after the first takes at most `more`
unfoldable pub tests_from : (ℕ → Bool) → ℕ → ℕ → ℕ → ℕ
tests_from test zero from to = 0
tests_from test (suc more) from to =
    elim (ltb from to) [
      | true ↦
          1
          + elim (test (middle from to)) [
            | true ↦ tests_from test more from (middle from to)
            | false ↦ tests_from test more (middle from to + 1) to
          ]
      | false ↦ 0
    ]

-- from 0 to K + 1
unfoldable pub tests_made : (ℕ → Bool) → ℕ → ℕ
tests_made test K = tests_from test (K + 1) 0 (K + 1)
