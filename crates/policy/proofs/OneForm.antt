-- The one form of the tests is what the documents print for each policy that is weighed.
-- Assumes nothing.
use Rattle.ground.proofs.Kit.{ℕ, ◌*◌, ◌≤◌, true, ◌≡◌, refl, mul-le-mul, arith}
use Rattle.ground.proofs.Cases.{true-false}
use Rattle.kinds.specs.declared.Policy.{Policy}
use Rattle.kinds.specs.declared.Policy.TheVariants.{Pooled, GlobalEdf, GlobalRm, FirstFit, OneCoreRm, Further}
use Rattle.kinds.specs.Limits.{scale}
use Rattle.kinds.specs.Policy.{is_weighed}
use Rattle.policy.specs.declared.Weights.{Weights}
use Rattle.policy.specs.Sides.{left_side, right_side, left_of, weights_of}
use Rattle.policy.specs.Handover.{Light}

pub one_left : (p : Policy) (m n sum max : ℕ) → is_weighed p ≡ true → left_of (weights_of p m n) sum max ≡ left_side p m sum max
one_left Pooled m n sum max f = omega arith
one_left GlobalEdf m n sum max f = refl
one_left GlobalRm m n sum max f = true-false f refl
one_left FirstFit m n sum max f = true-false f refl
one_left OneCoreRm m n sum max f = omega arith
one_left (Further q) m n sum max f = true-false f refl

pub one_right : (p : Policy) (m n max : ℕ) → is_weighed p ≡ true → (weights_of p m n).r ≡ right_side p m n max
one_right Pooled m n max f = refl
one_right GlobalEdf m n max f = refl
one_right GlobalRm m n max f = true-false f refl
one_right FirstFit m n max f = true-false f refl
one_right OneCoreRm m n max f = refl
one_right (Further q) m n max f = true-false f refl

-- the product that the code forms is small
pub max-part : (w : Weights) → Light w → (max : ℕ) → max ≤ scale → w.b * max ≤ 16000000
max-part w l max h = mul-le-mul l.b-most h
