-- What a call with settings asks of its records: the rules of document 01 on the records whose swaps are paid for, and the loads of the
-- settings' edition.
-- Assumes nothing.
use Rattle.ground.specs.Least.{Step}
use Rattle.std.specs.Prelude.{ℕ, ◌+◌, List, ℤ}
use Rattle.ground.specs.Choice.{pick}
use Rattle.ground.specs.Halving.{tests_made}
use Rattle.kinds.specs.declared.Task.{Task}
use Rattle.kinds.specs.declared.Settings.{Settings}
use Rattle.kinds.specs.Policy.{meant}
use Rattle.kinds.specs.Settings.{tests_charge}
use Rattle.kinds.specs.Task.{at}
use Rattle.share.specs.Share.{load_at}
use Rattle.share.specs.Table.{full_compression, priced_rows}
use Rattle.policy.specs.Sides.{margin_of}
use Rattle.policy.specs.Passing.{passes_at, least_step}
use Rattle.policy.specs.Looks.{looks_of}

-- the records that the rules are asked of
abbrev pub rows_under : Settings → List Task → ℕ → List Task
rows_under s rows n = priced_rows s.swap rows n

-- full compression, and what is tested and placed: the loads at step k, by number
abbrev pub full_under : Settings → List Task → ℕ → ℕ
full_under s rows n = full_compression (rows_under s rows n) n

abbrev pub loads_under : Settings → List Task → ℕ → ℕ → ℕ → ℕ
loads_under s rows n k i = load_at s (at (rows_under s rows n) i) k

-- the least passing step
abbrev pub least_under : Settings → List Task → ℕ → Step
least_under s rows n = least_step (meant s.policy) s.m (loads_under s rows n) n (full_under s rows n)

-- the looks of the quick finder: under edition 2 "the tests made" by halving, else those that document 01 counts for the least step
abbrev pub halving_looks : Settings → List Task → ℕ → ℕ
halving_looks s rows n = tests_made (passes_at (meant s.policy) s.m (loads_under s rows n) n) (full_under s rows n)

abbrev pub looks_under : Settings → List Task → ℕ → ℕ
looks_under s rows n = pick (tests_charge s) (halving_looks s rows n) (looks_of (rows_under s rows n) n (least_under s rows n))

-- and their bound: "never over 20" under edition 2, else tasks + 1
abbrev pub most_looks : Settings → ℕ → ℕ
most_looks s n = pick (tests_charge s) 20 (n + 1)

-- the margin at step k
abbrev pub margin_under : Settings → List Task → ℕ → ℕ → ℤ
margin_under s rows n k = margin_of (meant s.policy) s.m (loads_under s rows n k) n
