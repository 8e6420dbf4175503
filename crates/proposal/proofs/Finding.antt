-- What `position` finds in a list is the first number at which the test holds, and what it finds in the front of a list is found in the list.
-- Assumes nothing.
use Rattle.ground.proofs.Kit.{ℕ, ◌≤◌, Bool, List, ◌≡◌, refl, ◌∙◌, arith, length, get_or, take, length-take-le, lt-ltb, le-ltb, Option, Some, None}
use Rattle.std.specs.List.{position}
use Rattle.std.proofs.lemmas.List.{get_or-take}
use Rattle.std.proofs.lemmas.List.Sums.{position_or_len_is}
use Rattle.ground.specs.First.{first_below}
use Rattle.ground.proofs.Cases.{by_le}
use Rattle.ground.proofs.First.{first-is, first_cong}
use Rattle.proposal.specs.Handover.{FoundFirst}

module _ (test : ℕ → Bool) (xs : List ℕ) where
  pub position-found : (r : Option ℕ) → r ≡ position test xs → FoundFirst (λ i. test (get_or xs i 0)) (length xs) r
  position-found r e =
      let n = length xs in
      let first = first-is (λ i. test (get_or xs i 0)) n in
      let same = position_or_len_is test xs (first_below (λ i. test (get_or xs i 0)) n) 0 first.last first.before first.there in
      by_le n (first_below (λ i. test (get_or xs i 0)) n)
      (λ h. let none : r ≡ None = rw (same, le-ltb _ _ h) at e in rw none h)
      (λ h. let some : r ≡ Some (first_below (λ i. test (get_or xs i 0)) n) = rw (same, lt-ltb _ _ h) at e in rw some (h, refl))

  module _ (n : ℕ) (h : n ≤ length xs) where
    front-same : first_below (λ i. test (get_or (take n xs) i 0)) n ≡ first_below (λ i. test (get_or xs i 0)) n
    front-same =
        first_cong (λ i. test (get_or (take n xs) i 0)) (λ i. test (get_or xs i 0)) n (λ i l. rw (get_or-take n xs i 0 l))

    pub found-front : (r : Option ℕ) → FoundFirst (λ i. test (get_or (take n xs) i 0)) (length (take n xs)) r → FoundFirst (λ i. test (get_or xs i 0)) n r
    found-front (Some i) w = let f = rw (length-take-le n xs h) at w in (f.0, f.1 ∙ front-same)
    found-front None w = let f = rw (length-take-le n xs h) at w in omega (arith, f, front-same)
