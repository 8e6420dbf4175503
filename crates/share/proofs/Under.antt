-- The share of any record under any settings: that of a good one with its swaps paid for, and 0 exactly where it is not good.
-- Assumes nothing.
use Rattle.ground.proofs.Kit.{ℕ, ◌%◌, Bool, true, false, not, ◌≡◌, sym, ◌∙◌, ap, arith, eqb, eqb-true, not-true, not-false}
use native.Mathlib.Nat.{mod-zero}
use Rattle.ground.proofs.Cases.{by_bool, both_true}
use Rattle.kinds.specs.declared.Task.{Task}
use Rattle.kinds.specs.declared.Settings.{Settings}
use Rattle.kinds.specs.Task.{priced, Good, is_within, is_on_notch, is_good}
use Rattle.kinds.proofs.Records.{good-is}
use Rattle.share.specs.Share.{share_at, share_under}
use Rattle.share.proofs.Tasks.{share-some}

module _ (s : Settings) (t : Task) (k : ℕ) where
  pub good-shared : is_good s.swap s.notch t ≡ true → share_under s t k ≡ share_at (priced s.swap t) k
  unfolding share_under
  good-shared g = rw g

  pub bad-shared : is_good s.swap s.notch t ≡ false → share_under s t k ≡ 0
  unfolding share_under
  bad-shared b = rw b

  -- and only there: a good record's share is not 0
  pub zero-bad : share_under s t k ≡ 0 → is_good s.swap s.notch t ≡ false
  zero-bad z =
      by_bool (is_good s.swap s.notch t)
      (λ g. absurd (omega (arith, good-shared g, share-some (priced s.swap t) (good-is s.swap s.notch t g) k)))
      (λ b. b)

-- where there is no notch no record is good: its Tmin would be 0
stands-on-nothing : (w : ℕ) (t : Task) → is_good w 0 t ≡ true → t.tmin ≡ 0
unfolding is_good
stands-on-nothing w t g =
    let on = (both_true (is_within w t) (is_on_notch 0 t) g).1 in
    sym (mod-zero t.tmin) ∙ eqb-true (t.tmin % 0) 0 (both_true (eqb (t.tmin % 0) 0) (eqb (t.tmax % 0) 0) on).0

pub no-notch : (w : ℕ) (t : Task) → is_good w 0 t ≡ false
no-notch w t =
    by_bool (is_good w 0 t)
    (λ g. let good = good-is w 0 t g in absurd (omega (arith, stands-on-nothing w t g, good.c-some, good.c-tmin)))
    (λ b. b)

-- a record whose test was not failed is good once its swaps are paid for
pub found-good : (w q : ℕ) (t : Task) (b : Bool) → b ≡ is_good w q t → not b ≡ false → Good (priced w t)
found-good w q t b e left = good-is w q t (sym e ∙ not-false b left)

-- what the function hands back, by the way that it comes
module _ (s : Settings) (t : Task) (k r : ℕ) where
  pub shared-unset : s.notch ≡ 0 → r ≡ 0 → r ≡ share_under s t k
  shared-unset unset z = z ∙ sym (bad-shared s t k (rw unset (no-notch s.swap t)))

  module _ (b : Bool) (e : b ≡ is_good s.swap s.notch t) where
    pub shared-bad : not b ≡ true → r ≡ 0 → r ≡ share_under s t k
    shared-bad taken z = z ∙ sym (bad-shared s t k (sym e ∙ not-true b taken))

    pub shared-good : not b ≡ false → (paid : Task) → paid ≡ priced s.swap t → r ≡ share_at paid k → r ≡ share_under s t k
    shared-good left paid is share =
        share ∙ (ap (λ (p : Task). share_at p k) is ∙ sym (good-shared s t k (sym e ∙ not-false b left)))
