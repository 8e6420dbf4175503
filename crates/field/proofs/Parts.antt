-- A run of bytes that stands at a place of a list: joined from parts, split into parts, and read as a number. Both round trips of a sheet
-- rest on these laws.
-- Assumes nothing.
use Rattle.ground.proofs.Kit.{ℕ, ◌+◌, ◌≤◌, ◌<◌, List, [], ◌++◌, append-nil, ◌≡◌, refl, sym, ◌∙◌, ap, arith, length, take, drop, length-drop, take-append-drop}
use Rattle.ground.proofs.Kit.{length-take-le}
use lib.Seq.{take_all, take_at, drop_at, take-add, drop-drop}
use Rattle.field.specs.Number.{Bytes, number_at, bytes_of, limit}
use Rattle.field.proofs.Numbers.{number-drop, number-front, bytes_back, number-back}

-- the run of so many bytes that stands at a place
pub record Part (s : List ℕ) (at size : ℕ) (run : List ℕ) : Type 0 where
  pub within : at + size ≤ length s
  pub is : run ≡ take size (drop at s)

pub part-all : (s : List ℕ) → Part s 0 (length s) s
part-all s = record { within = omega arith; is = sym (take_all (length s) s (omega arith)) }

-- a run that stands at a place of the whole list is the list
pub part-whole : (s run : List ℕ) (size : ℕ) → length s ≤ size → Part s 0 size run → run ≡ s
part-whole s run size h p = p.is ∙ take_all size s h

pub part_none : (s : List ℕ) (at : ℕ) → at ≤ length s → Part s at 0 []
part_none s at h = record { within = omega arith; is = refl }

both-parts : (s : List ℕ) (at m n : ℕ) → take m (drop at s) ++ take n (drop (at + m) s) ≡ take (m + n) (drop at s)
both-parts s at m n = rw (← drop-drop m at s) (sym (take-add m n (drop at s)))

-- a run after a run is one run
pub part_then : {s : List ℕ} {at m next n : ℕ} {xs ys : List ℕ} → next ≡ at + m → Part s at m xs → Part s next n ys → Part s at (m + n) (xs ++ ys)
part_then {s} {at} {m} {next} {n} e p q =
    let w = q.within in
    record { within = omega arith; is = rw (p.is, q.is, e) (both-parts s at m n) }

-- and one run is its two parts
module _ {s : List ℕ} {at : ℕ} (m n : ℕ) (xs ys : List ℕ) (long : length xs ≡ m) (p : Part s at (m + n) (xs ++ ys)) where
  front_long : length (take m (drop at s)) ≡ m
  front_long = let w = p.within in length-take-le m (drop at s) (simp length-drop (omega arith))

  same : xs ++ ys ≡ take m (drop at s) ++ take n (drop (at + m) s)
  same = p.is ∙ sym (both-parts s at m n)

  pub part_left : Part s at m xs
  part_left =
      let w = p.within in
      record {
        within = omega arith;
        is = sym (take_at xs ys m long) ∙ (ap (take m) same ∙ take_at (take m (drop at s)) (take n (drop (at + m) s)) m front_long);
      }

  pub part_right : Part s (at + m) n ys
  part_right =
      let w = p.within in
      record {
        within = omega arith;
        is = sym (drop_at xs ys m long) ∙ (ap (drop m) same ∙ drop_at (take m (drop at s)) (take n (drop (at + m) s)) m front_long);
      }

-- a number depends on its own bytes only
number-part : (size : ℕ) (s : List ℕ) (at : ℕ) → at + size ≤ length s → number_at size s at ≡ number_at size (take size (drop at s)) 0
number-part size s at h =
    let d : length (take size (drop at s)) ≡ size = length-take-le size (drop at s) (simp length-drop (omega arith)) in
    sym (number-drop size s at (omega arith))
    ∙ (ap (λ (l : List ℕ). number_at size l 0) (sym (take-append-drop size (drop at s)))
    ∙ number-front (take size (drop at s)) (drop size (drop at s)) size 0 (omega arith))

-- the number whose bytes stand at a place stands there
pub part-number : (size v : ℕ) {s : List ℕ} {at : ℕ} → v < limit size → Part s at size (bytes_of size v) → number_at size s at ≡ v
part-number size v {s} {at} h p =
    number-part size s at p.within
    ∙ (ap (λ (l : List ℕ). number_at size l 0) (sym p.is ∙ sym (append-nil (bytes_of size v))) ∙ number-back size v [] h)

-- and the bytes of the number that stands at a place stand there
pub number-stands : (size : ℕ) (s : List ℕ) (at : ℕ) → Bytes s → at + size ≤ length s → Part s at size (bytes_of size (number_at size s at))
number-stands size s at bytes h = record { within = h; is = bytes_back s bytes size at h }
