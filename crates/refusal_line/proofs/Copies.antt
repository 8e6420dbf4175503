-- Bytes copied to a place of a buffer, as `put_bytes` goes.
-- Assumes nothing.
use Rattle.ground.proofs.Kit.{ℕ, ◌+◌, ◌≤◌, List, ◌++◌, ◌≡◌, refl, sym, ◌∙◌, ap, arith, length, take, drop}
use borrow.Rule.Slice.PartMut.{put_mid}
use Rattle.std.proofs.lemmas.Slice.{put_mid-paste}
use Rattle.std.proofs.lemmas.List.{take_all}
use Rattle.std.proofs.lemmas.List.Edits.{sets-eq}
use Rattle.field.specs.Handover.{stored, Put}

pub copied : (old bytes now : List ℕ) (at k : ℕ) → at + length bytes ≤ length old → now ≡ bytes → length bytes ≡ k
    → Put old at (length bytes) bytes (at + length bytes) (put_mid at k old now)
unfolding stored
copied old bytes now at k room e f =
    let part = put_mid-paste at k old now bytes (length bytes) e f refl in
    let whole = ap (λ (run : List ℕ). take at old ++ run ++ drop (at + length bytes) old) (take_all (length bytes) bytes (omega arith)) in
    record { next-is = refl; run_long = refl; new_is = part ∙ (whole ∙ sym (sets-eq bytes old at room)) }
