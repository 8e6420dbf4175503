-- Bytes at the front of a buffer, as stores leave them, and that no second answer has them there.
-- Assumes nothing.
use Rattle.ground.proofs.Kit.{ℕ, ◌≤◌, List, ◌++◌, ◌≡◌, sym, ◌∙◌, ap, ap₂, arith, length, take, drop, length-append, length-drop, take-append-drop}
use Rattle.ground.proofs.Kit.{length-take-le, Result, Ok, Err}
use lib.Seq.{take_at, drop_at}
use Rattle.kinds.specs.declared.Refusal.{Refusal}
use Rattle.field.specs.Handover.{Put}
use Rattle.field.proofs.Stores.{stored-front}
use Rattle.refusal_line.specs.Fronts.{Fronts, FrontsOrRefuses, CountOrLine}

-- some bytes and then what stood there
pub fronts : (bytes old new : List ℕ) (k : ℕ) → k ≡ length bytes → k ≤ length old → new ≡ bytes ++ drop k old → Fronts bytes old k new
fronts bytes old new k counted room is =
    let long : length new ≡ length old = ap length is ∙ (length-append bytes (drop k old) ∙ simp length-drop (omega arith)) in
    record {
      written = ap (take k) is ∙ take_at bytes (drop k old) k (sym counted);
      kept = ap (drop k) is ∙ drop_at bytes (drop k old) k (sym counted);
      fits = omega arith;
      taken = sym (length-take-le k new (omega arith));
    }

pub put-fronts : {bytes old new : List ℕ} {size k : ℕ} → size ≤ length old → Put old 0 size bytes k new → Fronts bytes old k new
put-fronts {bytes} {old} {new} {size} {k} room p =
    let e : k ≡ size = omega (arith, p.next-is) in
    fronts bytes old new k (e ∙ sym p.run_long) (omega arith)
    (p.new_is ∙ (stored-front old bytes size p.run_long room ∙ ap (λ (n : ℕ). bytes ++ drop n old) (sym e)))

-- the same bytes at the front of the same buffer: the same count and the same buffer
pub fronts-one : (bytes old : List ℕ) (j k : ℕ) (new other : List ℕ) → Fronts bytes old j new → Fronts bytes old k other → (j ≡ k) × (new ≡ other)
fronts-one bytes old j k new other a b =
    let front : take j new ≡ take k other = a.written ∙ sym b.written in
    let e : j ≡ k = a.taken ∙ (ap length front ∙ sym b.taken) in
    let back : drop j new ≡ drop k other = a.kept ∙ (ap (λ (n : ℕ). drop n old) e ∙ sym b.kept) in
    (e, sym (take-append-drop j new) ∙ (ap₂ ◌++◌ front back ∙ take-append-drop k other))

-- the line that is written in the place of a refusal stands for it
pub line_written : (bytes old mid new : List ℕ) (k : ℕ) (answer : Result ℕ Refusal) → FrontsOrRefuses bytes old answer mid → CountOrLine answer mid k new
    → Fronts bytes old k new
line_written bytes old mid new k (Ok j) front count = rw (count.0, count.1) front
line_written bytes old mid new k (Err refusal) front line = rw (front.0, ← front.1) line
