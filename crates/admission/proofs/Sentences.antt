-- The sentences of 1, 15, 2, 4 and 6 as the documents say them, each both ways; those of 3 and 5 are comparisons as they stand.
-- Assumes nothing.
use Rattle.ground.proofs.Kit.{ℕ, ◌≤◌, ◌<◌, true, false, List, ◌≡◌, refl, sym, ◌∙◌, ◌⊎◌, inl, inr, ⊎_elim, arith, ltb, ne_eqb, lt-ltb, le-ltb, ltb-true}
use mathlib.Core.Logic.{◌↔◌}
use Rattle.ground.proofs.Cases.{by_bool, by_le, true-false}
use Rattle.kinds.specs.declared.Task.{Task}
use Rattle.kinds.specs.declared.Settings.{Settings}
use Rattle.kinds.specs.declared.Policy.{Policy}
use Rattle.kinds.specs.declared.Policy.TheVariants.{Pooled, GlobalEdf, GlobalRm, FirstFit, OneCoreRm, Further}
use Rattle.kinds.specs.Limits.{most_processors, share_edition, charge_edition}
use Rattle.kinds.specs.Policy.{policy_of, policy_number, meant, is_first_fit, is_one_core, is_withdrawn, is_further}
use Rattle.kinds.specs.Task.{at, is_good}
use Rattle.kinds.proofs.Policies.{number-back}
use Rattle.share.specs.Table.{first_bad}
use Rattle.share.proofs.Tables.{first-bad-is}
use Rattle.admission.specs.Admission.{unsuited, no_edition, misset_numbers, misset_under}
use Rattle.admission.proofs.Chain.{neither, numbers-set, set-few, edition-set, one-core-set}

-- policies 3, 4 and 5, each known by its kind
kind-numbers : (p : Policy) → (is_withdrawn p ≡ true → policy_number p ≡ 3) × (is_first_fit p ≡ true → policy_number p ≡ 4) × (is_one_core p ≡ true → policy_number p ≡ 5)
kind-numbers Pooled = (λ e. true-false e refl, λ e. true-false e refl, λ e. true-false e refl)
kind-numbers GlobalEdf = (λ e. true-false e refl, λ e. true-false e refl, λ e. true-false e refl)
kind-numbers GlobalRm = (λ _. refl, λ e. true-false e refl, λ e. true-false e refl)
kind-numbers FirstFit = (λ e. true-false e refl, λ _. refl, λ e. true-false e refl)
kind-numbers OneCoreRm = (λ e. true-false e refl, λ e. true-false e refl, λ _. refl)
kind-numbers (Further q) = (λ e. true-false e refl, λ e. true-false e refl, λ e. true-false e refl)

-- 1 to 5 are numbers of policies, and no other number is
numbered : (q : ℕ) → 1 ≤ q → q ≤ 5 → is_further (policy_of q) ≡ false
numbered q l h =
    by_le q 1 (λ a. let e : q ≡ 1 = omega arith in rw e)
    (λ a. by_le q 2 (λ b. let e : q ≡ 2 = omega arith in rw e)
    (λ b. by_le q 3 (λ c. let e : q ≡ 3 = omega arith in rw e)
    (λ c. by_le q 4 (λ d. let e : q ≡ 4 = omega arith in rw e) (λ d. let e : q ≡ 5 = omega arith in rw e))))

unnumbered : (q : ℕ) → (q < 1) ⊎ (5 < q) → is_further (policy_of q) ≡ true
unnumbered q h =
    let other : (k : ℕ) → 1 ≤ k → k ≤ 5 → q ≡ k → ⊥ = λ k l m e. ⊎_elim (λ a. omega arith) (λ a. omega arith) h in
    rw (
      ne_eqb q 1 (other 1 (omega arith) (omega arith)),
      ne_eqb q 2 (other 2 (omega arith) (omega arith)),
      ne_eqb q 3 (other 3 (omega arith) (omega arith)),
      ne_eqb q 4 (other 4 (omega arith) (omega arith)),
      ne_eqb q 5 (other 5 (omega arith) (omega arith)),
    )

module _ (p : Policy) where
  -- 1: "not 1 to 5"
  pub one-says : (is_further (meant p) ≡ true) ↔ ((policy_number p < 1) ⊎ (5 < policy_number p))
  one-says =
      let q = policy_number p in
      (λ e. by_le 1 q (λ l. by_le q 5 (λ h. true-false e (numbered q l h)) (λ h. inr h)) (λ l. inl l), unnumbered q)

  -- 15: policy 3 "is withdrawn", also in a further choice that holds it
  pub fifteen-says : (is_withdrawn (meant p) ≡ true) ↔ (policy_number p ≡ 3)
  fifteen-says = (λ e. sym (number-back (policy_number p)) ∙ (kind-numbers (meant p)).0 e, λ e. rw e)

  -- 4: "policy 4"
  pub four-says : (is_first_fit (meant p) ≡ true) ↔ (policy_number p ≡ 4)
  four-says = (λ e. sym (number-back (policy_number p)) ∙ (kind-numbers (meant p)).1 e, λ e. rw e)

-- what 2 is not given for: "m is 0 or above 16", "q = 0", an edition that is not "1 or 2", and policy 5 "needs m = 1"
pub record WellSet (s : Settings) : Type 0 where
  pub m-some : 1 ≤ s.m
  pub m-most : s.m ≤ most_processors
  pub notched : 1 ≤ s.notch
  pub edition : (s.edition ≡ share_edition) ⊎ (s.edition ≡ charge_edition)
  pub one-core : policy_number s.policy ≡ 5 → s.m ≡ 1

edition-there : (edition : ℕ) → (edition ≡ share_edition) ⊎ (edition ≡ charge_edition) → no_edition edition ≡ false
edition-there edition h = ⊎_elim (λ e. rw e) (λ e. rw e) h

unsuited-not : (p : Policy) (m : ℕ) → (policy_number p ≡ 5 → m ≡ 1) → unsuited (meant p) m ≡ false
unsuited-not p m h =
    by_bool (is_one_core (meant p)) (λ t. rw (t, h (sym (number-back (policy_number p)) ∙ (kind-numbers (meant p)).2 t))) (λ t. rw t)

-- 2
pub two-says : (s : Settings) → (misset_under s ≡ false) ↔ WellSet s
two-says s = (well, set)
  where
    well : misset_under s ≡ false → WellSet s
    well e =
        let parts = neither (misset_numbers s) (unsuited (meant s.policy) s.m) e in
        let numbers = numbers-set s parts.0 in
        let m-is = set-few s.m 0 numbers.0 (omega arith) in
        record {
          m-some = m-is.m-some;
          m-most = m-is.m-most;
          notched = numbers.1;
          edition = edition-set s parts.0;
          one-core = λ five. one-core-set (meant s.policy) s.m parts.1 (rw five);
        }

    set : WellSet s → misset_under s ≡ false
    set w =
        let low = le-ltb s.m 1 w.m-some in
        let high = le-ltb most_processors s.m w.m-most in
        let notch = ne_eqb s.notch 0 (λ z. omega (arith, w.notched)) in
        rw (low, high, notch, edition-there s.edition w.edition, unsuited-not s.policy s.m w.one-core)

-- a record is not good
pub record SomeBad (w q : ℕ) (rows : List Task) (n : ℕ) : Type 0 where
  pub record-number : ℕ
  pub there : record-number < n
  pub bad : is_good w q (at rows record-number) ≡ false

-- 6: "a record is not good", and the place is the "first such record", `first-bad-is`
pub six-says : (w q : ℕ) (rows : List Task) (n : ℕ) → (ltb (first_bad w q rows n) n ≡ true) ↔ SomeBad w q rows n
six-says w q rows n = (some, first)
  where
    some : ltb (first_bad w q rows n) n ≡ true → SomeBad w q rows n
    some e =
        let r = first_bad w q rows n in
        let l = ltb-true r n e in
        let bad = (first-bad-is w q rows n).there l in
        record { record-number = r; there = l; bad = by_bool (is_good w q (at rows r)) (λ g. true-false bad (rw g)) (λ g. g) }

    first : SomeBad w q rows n → ltb (first_bad w q rows n) n ≡ true
    first b =
        by_le n (first_bad w q rows n)
        (λ l. true-false (rw b.bad) ((first-bad-is w q rows n).before b.record-number (omega (arith, b.there))))
        (λ l. lt-ltb (first_bad w q rows n) n l)
