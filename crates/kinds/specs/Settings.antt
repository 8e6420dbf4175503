-- The station settings, and the numbers that they are on a sheet, in its order.
-- Assumes nothing.
use Rattle.std.specs.Prelude.{ℕ, Bool, List, [], ◌∷◌, eqb, get_or}
use Rattle.kinds.specs.declared.Policy.{Policy}
use Rattle.kinds.specs.declared.Settings.{Settings}
use Rattle.kinds.specs.Limits.{charge_edition}
use Rattle.kinds.specs.Policy.{policy_of, policy_number}

abbrev pub settings : Policy → ℕ → ℕ → ℕ → ℕ → Settings
settings policy m swap notch edition = record { policy = policy; m = m; swap = swap; notch = notch; edition = edition }

-- what is filled in for each number that a sheet leaves out; Ask 5: "filled in as w = 0 and q = 1"; Ask 10: of editions "missing means 1"
abbrev pub fill_ins : List ℕ
fill_ins = 0 ∷ 0 ∷ 0 ∷ 1 ∷ 1 ∷ []

-- number i of a list of settings
abbrev pub setting : List ℕ → ℕ → ℕ
setting numbers i = get_or numbers i 0

-- the settings that numbers stand for: policy, m, w, q, edition
abbrev pub settings_of : List ℕ → Settings
settings_of numbers = settings (policy_of (setting numbers 0)) (setting numbers 1) (setting numbers 2) (setting numbers 3) (setting numbers 4)

-- the numbers that settings are written as
abbrev pub numbers_of : Settings → List ℕ
numbers_of s = policy_number s.policy ∷ s.m ∷ s.swap ∷ s.notch ∷ s.edition ∷ []

-- Ask 10: "Edition 2 tests each policy on the charge"
abbrev pub tests_charge : Settings → Bool
tests_charge s = eqb s.edition charge_edition
