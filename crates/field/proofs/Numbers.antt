-- Laws of numbers and their bytes, for every size. The last two are the two ways of the round trip.
-- Assumes nothing.
use Rattle.ground.proofs.Kit.{ℕ, zero, suc, ◌+◌, ◌-◌, ◌*◌, ◌/◌, ◌%◌, ◌≤◌, ◌<◌, List, [], ◌∷◌, ◌++◌, ◌≡◌, refl, sym, ◌∙◌, ap, add-one, arith, length, get_or, take, drop}
use Rattle.ground.proofs.Kit.{length-take-le, length-drop, take-append-drop}
use native.Mathlib.Nat.{add_assoc, div-lt_iff_lt-mul, div-add-mod'}
use lib.ListN.{get_or-append}
use lib.Seq.{drop-cons, get_or-append-add, take_all}
use Rattle.std.specs.List.{slice_range}
use Rattle.field.specs.Number.{Bytes, number_at, bytes_of, limit}

pub bytes-long : (size v : ℕ) → length (bytes_of size v) ≡ size
unfolding bytes_of
bytes-long zero v = refl
bytes-long (suc size) v = ap suc (bytes-long size (v / 256))

-- a number behind a front, and one in a front
module _ (p q : List ℕ) where
  pub number-skip : (size k : ℕ) → number_at size (p ++ q) (length p + k) ≡ number_at size q k
  unfolding number_at
  number-skip zero k = refl
  number-skip (suc size) k =
      rw (get_or-append-add p q k 0, add_assoc (length p) k 1, number-skip size (k + 1))

  pub number-front : (size k : ℕ) → k + size ≤ length p → number_at size (p ++ q) k ≡ number_at size p k
  unfolding number_at
  number-front zero k h = refl
  number-front (suc size) k h =
      rw (get_or-append p q 0 k (omega arith), number-front size (k + 1) (omega arith))

-- a number at a place stands at the front of what is left from there on
pub number-drop : (size : ℕ) (s : List ℕ) (at : ℕ) → at ≤ length s → number_at size (drop at s) 0 ≡ number_at size s at
number-drop size s at h =
    let a : length (take at s) + 0 ≡ at = omega (arith, length-take-le at s h) in
    sym (number-skip (take at s) (drop at s) size 0) ∙ rw (a, take-append-drop) refl

pub number-left : (size : ℕ) (s : List ℕ) (at : ℕ) → at ≤ length s → number_at size (slice_range s at (length s)) 0 ≡ number_at size s at
number-left size s at h =
    let rest : take (length s - at) (drop at s) ≡ drop at s = take_all (length s - at) (drop at s) (simp length-drop (omega arith)) in
    ap (λ (l : List ℕ). number_at size l 0) rest ∙ number-drop size s at h

-- the bytes of the number at a place are the bytes there
pub bytes_back : (s : List ℕ) → Bytes s → (size at : ℕ) → at + size ≤ length s → bytes_of size (number_at size s at) ≡ take size (drop at s)
unfolding number_at bytes_of
bytes_back s bytes zero at h = refl
bytes_back s bytes (suc size) at h =
    let b = bytes at in
    let low : (get_or s at 0 + 256 * number_at size s (at + 1)) % 256 ≡ get_or s at 0 = omega arith in
    let high : (get_or s at 0 + 256 * number_at size s (at + 1)) / 256 ≡ number_at size s (at + 1) = omega arith in
    let d = drop-cons s at 0 (omega arith) in
    rw (low, high, bytes_back s bytes size (at + 1) (omega arith), d, add-one at)

-- the number that bytes were made of stands in them
pub number-back : (size v : ℕ) (rest : List ℕ) → v < limit size → number_at size (bytes_of size v ++ rest) 0 ≡ v
unfolding number_at bytes_of
number-back zero v rest h = omega arith
number-back (suc size) v rest h =
    let less : v / 256 < limit size = (div-lt_iff_lt-mul {k = 256} (omega arith)).1 h in
    let high = number-skip (v % 256 ∷ []) (bytes_of size (v / 256) ++ rest) size 0 ∙ number-back size (v / 256) rest less in
    rw high (omega (arith, div-add-mod' v 256))
