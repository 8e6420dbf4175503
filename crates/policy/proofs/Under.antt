-- What a call with settings asks of its records: it depends on the first n of them only, passing stays with the step under both editions, and
-- the looks are few.
-- Assumes nothing.
use Rattle.ground.proofs.Kit.{ℕ, ◌≤◌, ◌<◌, true, false, List, ◌≡◌, refl, ◌∙◌, ap}
use Rattle.ground.specs.Least.{Rising}
use Rattle.ground.proofs.Cases.{by_bool}
use Rattle.ground.proofs.Halving.{made-few}
use Rattle.kinds.specs.declared.Task.{Task}
use Rattle.kinds.specs.declared.Policy.{Policy}
use Rattle.kinds.specs.declared.Settings.{Settings}
use Rattle.kinds.specs.Limits.{share_edition, charge_edition}
use Rattle.kinds.specs.Policy.{meant, is_weighed}
use Rattle.kinds.specs.Settings.{settings, tests_charge}
use Rattle.kinds.specs.Task.{at, Good, OnNotch}
use Rattle.share.specs.Share.{load_at}
use Rattle.share.specs.Table.{shares}
use Rattle.share.proofs.Charges.{load-first, load-falls, load-share}
use Rattle.share.proofs.Tables.{priced-same, full-most}
use Rattle.policy.specs.Passing.{passes_at, least_step}
use Rattle.policy.specs.Under.{rows_under, full_under, loads_under, least_under, looks_under, most_looks, margin_under}
use Rattle.policy.proofs.Tests.{passes-less, passes-rising, passes_same}
use Rattle.policy.proofs.Demand.{step_same}
use Rattle.policy.proofs.LookCount.{looks-bound}

module _ (s : Settings) (xs ys : List Task) (n : ℕ) (same : (i : ℕ) → i < n → at xs i ≡ at ys i) where
  pub rows_same : rows_under s xs n ≡ rows_under s ys n
  rows_same = priced-same s.swap xs ys n same

  pub loads-same : loads_under s xs n ≡ loads_under s ys n
  loads-same = ap {B = ℕ → ℕ → ℕ} (λ (paid : List Task). λ (k i : ℕ). load_at s (at paid i) k) rows_same

  pub least-under-same : least_under s xs n ≡ least_under s ys n
  least-under-same = rw (loads-same, rows_same)

  pub looks-under-same : looks_under s xs n ≡ looks_under s ys n
  looks-under-same = rw (loads-same, rows_same)

  pub margin-under-same : (k : ℕ) → margin_under s xs n k ≡ margin_under s ys n k
  margin-under-same k = rw loads-same

-- edition 1 tests the shares
module _ (s : Settings) (rows : List Task) (n : ℕ) (first : tests_charge s ≡ false) where
  pub first-loads : (k i : ℕ) → i < n → shares (rows_under s rows n) k i ≡ loads_under s rows n k i
  first-loads k i l = rw (load-first s (at (rows_under s rows n) i) k first)

  pub first-least : least_step (meant s.policy) s.m (shares (rows_under s rows n)) n (full_under s rows n) ≡ least_under s rows n
  first-least = step_same (meant s.policy) s.m (shares (rows_under s rows n)) (loads_under s rows n) n (full_under s rows n) first-loads

module _ (s : Settings) (rows : List Task) (n : ℕ)
    (good : (i : ℕ) → i < n → Good (at (rows_under s rows n) i)) (on : (i : ℕ) → i < n → OnNotch s.notch (at (rows_under s rows n) i)) where
  -- what both editions share: passing of policies 1, 2 and 5 stays with the step
  pub rising-under : (p : Policy) (m : ℕ) → is_weighed p ≡ true → Rising (passes_at p m (loads_under s rows n) n)
  rising-under p m f =
      passes-rising p m (loads_under s rows n) n f (λ i l j k h. load-falls s (at (rows_under s rows n) i) (good i l) (on i l) j k h)

  -- what passes on the shares passes on the loads of either edition
  pub shares-pass : (p : Policy) (m k : ℕ) → is_weighed p ≡ true → passes_at p m (shares (rows_under s rows n)) n k ≡ true
      → passes_at p m (loads_under s rows n) n k ≡ true
  shares-pass p m k f t =
      passes-less p m (shares (rows_under s rows n) k) (loads_under s rows n k) n f (λ i l. load-share s (at (rows_under s rows n) i) (good i l) (on i l) k) t

  -- demand 3: at most tasks + 1, and under edition 2 "never over 20"
  pub looks-few : looks_under s rows n ≤ most_looks s n
  looks-few =
      by_bool (tests_charge s)
      (λ e. rw e (made-few (passes_at (meant s.policy) s.m (loads_under s rows n) n) (full_under s rows n) (full-most (rows_under s rows n) n good)))
      (λ e. rw e (looks-bound (meant s.policy) s.m (loads_under s rows n) (rows_under s rows n) n))

-- the settings with another edition
abbrev pub of_edition : ℕ → Settings → Settings
of_edition edition s = settings s.policy s.m s.swap s.notch edition

-- what edition 1 passes, edition 2 passes at that step, for policies 1, 2 and 5
pub second-passes : (s : Settings) (rows : List Task) (n k : ℕ) → is_weighed (meant s.policy) ≡ true
    → ((i : ℕ) → i < n → Good (at (rows_under s rows n) i)) → ((i : ℕ) → i < n → OnNotch s.notch (at (rows_under s rows n) i))
    → passes_at (meant s.policy) s.m (loads_under (of_edition share_edition s) rows n) n k ≡ true
    → passes_at (meant s.policy) s.m (loads_under (of_edition charge_edition s) rows n) n k ≡ true
second-passes s rows n k f good on t =
    let first = of_edition share_edition s in
    let p = meant s.policy in
    shares-pass (of_edition charge_edition s) rows n good on p s.m k f
    (passes_same p s.m (shares (rows_under s rows n) k) (loads_under first rows n k) n (first-loads first rows n refl k) ∙ t)
