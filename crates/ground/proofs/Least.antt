-- The computed least step passes, no smaller one does, and none means that none passes; no other answer is right.
-- Assumes nothing.
use Rattle.ground.proofs.Kit.{ℕ, suc, ◌≤◌, ◌<◌, Bool, true, false, ◌≡◌, refl, sym, ◌∙◌, ap, arith, leb, leb-true, leb-false, Some, None}
use Rattle.ground.specs.First.{IsFirst}
use Rattle.ground.specs.Least.{up_to, least_up_to, LeastAt, IsLeast, Step}
use Rattle.ground.proofs.Cases.{by_bool, by_le, true-false}
use Rattle.ground.proofs.First.{first-is}

least-of : (test : ℕ → Bool) (K k : ℕ) → IsFirst test (suc K) k → IsLeast test K (up_to K k)
least-of test K k f =
    by_bool (leb k K)
    (λ t. rw t (record { within = leb-true k K t; passes = f.there (omega (arith, leb-true k K t)); before = f.before }))
    (λ t. rw t (λ j l. f.before j (omega (arith, leb-false k K t))))

pub least-is : (test : ℕ → Bool) (K : ℕ) → IsLeast test K (least_up_to test K)
unfolding least_up_to
least-is test K = least-of test K _ (first-is test (suc K))

pub least-unique : (test : ℕ → Bool) (K : ℕ) (x y : Step) → IsLeast test K x → IsLeast test K y → x ≡ y
least-unique test K (Some k) (Some l) p q =
    ap Some (by_le k l
    (λ h. by_le l k (λ g. omega arith) (λ g. true-false p.passes (q.before k g)))
    (λ h. true-false q.passes (p.before l h)))
least-unique test K (Some k) None p q = true-false p.passes (q k p.within)
least-unique test K None (Some l) p q = true-false q.passes (p l q.within)
least-unique test K None None p q = refl

-- a scan of the steps that has come to k
module _ (test : ℕ → Bool) (K k : ℕ) (h : (j : ℕ) → j < k → test j ≡ false) where
  pub least-here : k ≤ K → test k ≡ true → Some k ≡ least_up_to test K
  least-here l t = least-unique test K (Some k) _ (record { within = l; passes = t; before = h }) (least-is test K)

  pub least-none : K < k → None ≡ least_up_to test K
  least-none l = least-unique test K None _ (λ j g. h j (omega arith)) (least-is test K)

-- an answer has one step, and none has none
pub at-step : {j k : ℕ} → Some j ≡ Some k → j ≡ k
at-step {j} {k} e = ap (λ (s : Step). elim s [ Some x ↦ x | None ↦ 0 ]) e

pub nothing-at : {A : Type 0} {k : ℕ} → None ≡ Some k → A
nothing-at {A} {k} e = absurd (let z : ◌≡◌ {A = ℕ} 0 1 = ap (λ (s : Step). elim s [ Some x ↦ 1 | None ↦ 0 ]) e in omega arith)

-- what an answer says
pub least_at : (test : ℕ → Bool) (K k : ℕ) → least_up_to test K ≡ Some k → LeastAt test K k
least_at test K k e = rw e at (least-is test K)

pub least-nothing : (test : ℕ → Bool) (K : ℕ) → least_up_to test K ≡ None → (j : ℕ) → j ≤ K → test j ≡ false
least-nothing test K e = rw e at (least-is test K)

-- tests that agree have one least step
pub least-cong : (f g : ℕ → Bool) (K : ℕ) → ((k : ℕ) → f k ≡ g k) → least_up_to f K ≡ least_up_to g K
least-cong f g K h = least-unique g K _ _ (moved (least_up_to f K) (least-is f K)) (least-is g K)
  where
    moved : (s : Step) → IsLeast f K s → IsLeast g K s
    moved (Some k) l =
        record { within = l.within; passes = sym (h k) ∙ l.passes; before = λ j i. sym (h j) ∙ l.before j i }
    moved None l = λ j i. sym (h j) ∙ l j i
