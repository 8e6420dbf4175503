-- Settings and their numbers on a sheet, there and back, and that what is filled in fits its field.
-- Assumes nothing.
use Rattle.ground.proofs.Kit.{ℕ, suc, ◌≤◌, List, ◌≡◌, sym, ◌∙◌, ap, arith, length}
use lib.ListN.{get_or-eq_default}
use lib.Seq.{ext_get_or}
use Rattle.ground.specs.Folds.{max_to, list_to}
use Rattle.ground.proofs.Cases.{by_le}
use Rattle.ground.proofs.Folds.{le-max-to}
use Rattle.ground.proofs.Buffer.{list-long, list-in}
use Rattle.kinds.specs.declared.Policy.{Policy}
use Rattle.kinds.specs.declared.Settings.{Settings}
use Rattle.kinds.specs.Limits.{most_settings}
use Rattle.kinds.specs.Policy.{policy_of, meant}
use Rattle.kinds.specs.Settings.{fill_ins, setting, settings_of, numbers_of}
use Rattle.kinds.proofs.Policies.{number-back}

-- a list is its entries, one by one
entries : (l : List ℕ) (n : ℕ) → length l ≡ n → list_to (setting l) n ≡ l
entries l n long =
    ext_get_or 0 (list_to (setting l) n) l (list-long (setting l) n ∙ sym long)
    (λ i h. list-in 0 (setting l) n i (omega (arith, list-long (setting l) n)))

-- as many numbers as there are settings come back as they were
pub numbers-back : (l : List ℕ) → length l ≡ most_settings → numbers_of (settings_of l) ≡ l
unfolding list_to
numbers-back l long = rw (number-back (setting l 0)) (entries l most_settings long)

-- settings come back as they were, with the policy that is meant
pub settings-back : (s : Settings) → meant s.policy ≡ s.policy → settings_of (numbers_of s) ≡ s
settings-back s e = ap (λ (p : Policy). record { policy = p; m = s.m; swap = s.swap; notch = s.notch; edition = s.edition }) e

-- and a policy that was made of a number is the one that is meant
pub meant-of : (l : List ℕ) → meant (settings_of l).policy ≡ (settings_of l).policy
meant-of l = ap policy_of (number-back (setting l 0))

-- each number that is filled in is at most 1
pub fill-in-low : (i : ℕ) → setting fill_ins i ≤ 1
unfolding max_to
fill-in-low i =
    by_le (suc i) most_settings
    (λ h. omega (arith, le-max-to (setting fill_ins) most_settings i h))
    (λ h. omega (arith, get_or-eq_default fill_ins 0 {n = i} (omega arith)))
