-- An array that a closure makes of each index.
-- Assumes nothing.
use Rattle.ground.proofs.Kit.{ℕ, zero, suc, ◌+◌, ◌<◌, List, ◌≡◌, ◌∙◌, subst, arith, get_or}
use Rattle.std.specs.Array.{IsFromFnResultFrom, IsFromFnResult}
use denote.Param.Members.{Mut, Called}

made_from : {F B : Type 0} (g : Mut F (ℕ × Unit {0}) B) (f : F) (h : ℕ → B) → ((i : ℕ) (y : B) (q : F) → Called g f (i, tt) y q → (q ≡ f) × (y ≡ h i))
    → (ys : List B) (n i : ℕ) → IsFromFnResultFrom g f ys i n → (k : ℕ) (d : B) → k < n → get_or ys (i + k) d ≡ h (i + k)
made_from g f h calls ys zero i made k d l = absurd (omega arith)
made_from g f h calls ys (suc n) i made zero d l =
    let e : i ≡ i + 0 = omega arith in
    subst (λ (j : ℕ). get_or ys j d ≡ h j) e (made.2.1 d ∙ (calls i made.1 made.0 made.3).1)
made_from {F} g f h calls ys (suc n) i made (suc k) d l =
    let e : i + 1 + k ≡ i + suc k = omega arith in
    let rest = subst (λ (q : F). IsFromFnResultFrom g q ys (i + 1) n) (calls i made.1 made.0 made.3).0 made.4 in
    subst (λ (j : ℕ). get_or ys j d ≡ h j) e (made_from g f h calls ys n (i + 1) rest k d (omega arith))

-- where the closure keeps what it holds, and answers h of the index, h of its index stands at each place
pub made_at : {F B : Type 0} {g : Mut F (ℕ × Unit {0}) B} {f : F} {ys : List B} {n : ℕ} → IsFromFnResult g f ys n → (h : ℕ → B)
    → ((i : ℕ) (y : B) (q : F) → Called g f (i, tt) y q → (q ≡ f) × (y ≡ h i)) → (k : ℕ) (d : B) → k < n → get_or ys k d ≡ h k
made_at {F} {B} {g} {f} {ys} {n} made h calls k d l =
    let e : 0 + k ≡ k = omega arith in
    subst (λ (j : ℕ). get_or ys j d ≡ h j) e (made_from g f h calls ys n 0 made.each k d l)
