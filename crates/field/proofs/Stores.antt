-- Laws of runs of bytes stored in a buffer: two runs one after the other are one run, and a run from the front is what `stored-front` says.
-- Assumes nothing.
use Rattle.ground.proofs.Kit.{ℕ, suc, ◌+◌, ◌-◌, ◌≤◌, List, [], ◌∷◌, ◌++◌, append_assoc, ◌≡◌, refl, sym, ◌∙◌, ap, arith, length, set, drop, length-append}
use native.Mathlib.Nat.{add-zero}
use lib.Seq.{sets, sets-eq, length-sets}
use borrow.Rule.Slice.PartMut.{post_of, put_mid, Post-is}
use Rattle.ground.specs.Folds.{join_to}
use Rattle.ground.proofs.Joins.{join-none, join_more, join-longer}
use Rattle.field.specs.Handover.{stored, Put}

sets-append : (out : List ℕ) (at : ℕ) (xs ys : List ℕ) → sets (sets out at xs) (at + length xs) ys ≡ sets out at (xs ++ ys)
sets-append out at [] ys = rw (add-zero at)
sets-append out at (x ∷ xs) ys =
    let e : at + suc (length xs) ≡ suc at + length xs = omega arith in
    rw e (sets-append (set out at x) (suc at) xs ys)

pub stored-long : (out : List ℕ) (at : ℕ) (run : List ℕ) → length (stored out at run) ≡ length out
unfolding stored
stored-long out at run = length-sets out at run

-- a run from the front is the run and then what stood there
pub stored-front : (out run : List ℕ) (size : ℕ) → length run ≡ size → size ≤ length out → stored out 0 run ≡ run ++ drop size out
unfolding stored
stored-front out run size e h =
    let l : 0 + length run ≤ length out = omega arith in
    let k : 0 + length run ≡ size = omega arith in
    sets-eq run out 0 l ∙ ap (λ (n : ℕ). run ++ drop n out) k

pub put-none : (out : List ℕ) (at : ℕ) → Put out at 0 [] at out
unfolding stored
put-none out at = record { next-is = sym (add-zero at); run_long = refl; new_is = refl }

-- a run that replaces the part of a buffer from its place on
pub put-part : (out run : List ℕ) (at size end : ℕ) → length run ≡ size → end ≡ at + size → end ≤ length out
    → Put out at size run end (put_mid at (end - at) out run)
unfolding stored
put-part out run at size end long e h =
    let l : at + length run ≡ end = omega arith in
    let after : post_of at (end - at) out ≡ drop (at + length run) out = Post-is at end out (omega arith) ∙ ap (λ (n : ℕ). drop n out) (sym l) in
    record {
      next-is = e;
      run_long = long;
      new_is = rw (after, ← append_assoc) (sym (sets-eq run out at (omega arith)));
    }

-- a run after a run is one run
pub put_then : {out mid new : List ℕ} {at m next n end : ℕ} {xs ys : List ℕ} → Put out at m xs next mid → Put mid next n ys end new
    → Put out at (m + n) (xs ++ ys) end new
unfolding stored
put_then {out} {mid} {new} {at} {m} {next} {n} {end} {xs} {ys} p q =
    let e : next ≡ at + length xs = omega (arith, p.next-is, p.run_long) in
    record {
      next-is = omega (arith, p.next-is, q.next-is);
      run_long = length-append xs ys ∙ omega (arith, p.run_long, q.run_long);
      new_is =
          q.new_is
          ∙ (ap (λ (l : List ℕ). sets l next ys) p.new_is
          ∙ (ap (λ (k : ℕ). sets (sets out at xs) k ys) e ∙ sets-append out at xs ys));
    }

pub put-long : {out new : List ℕ} {at size next : ℕ} {run : List ℕ} → Put out at size run next new → length new ≡ length out
put-long {out} {new} {at} {size} {next} {run} p = ap length p.new_is ∙ stored-long out at run

-- the size of a run, counted another way
pub put-sized : {out new : List ℕ} {at m n next : ℕ} {run : List ℕ} → m ≡ n → Put out at m run next new → Put out at n run next new
put-sized e p = rw (← e) p

-- runs by number, joined: none yet, and one more
pub put-no-run : (f : ℕ → List ℕ) (out : List ℕ) (at : ℕ) → Put out at (length (join_to f 0)) (join_to f 0) at out
put-no-run f out at = rw (join-none f) (put-none out at)

pub put-run : (f : ℕ → List ℕ) (i : ℕ) {out mid new : List ℕ} {at next end : ℕ} → Put out at (length (join_to f i)) (join_to f i) next mid
    → Put mid next (length (f i)) (f i) end new → Put out at (length (join_to f (i + 1))) (join_to f (i + 1)) end new
put-run f i p q = put-sized (sym (join-longer f i)) (rw (join_more f i) (put_then p q))
