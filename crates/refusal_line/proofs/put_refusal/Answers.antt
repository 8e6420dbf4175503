-- `refusal_line::put_refusal` meets its contract: five runs, one after the other. A number has at most 5 digits, and a place at most 20.
-- Assumes nothing.
use Rattle.ground.proofs.Kit.{arith}
use Rattle.field.proofs.Stores.{put_then}
use Rattle.numeral.proofs.Digits.{few-digits}
use Rattle.refusal_line.specs.Line.{refusal_line}
use Rattle.refusal_line.proofs.Fronts.{put-fronts}
use Rattle.refusal_line.proofs.put_refusal.Goals as goal

pub put_decimal-at_word-requires : goal.put_decimal-at_word-requires
put_decimal-at_word-requires c = omega (arith, few-digits 4 c.from.result (omega arith), c.put_bytes-at_number.ensures.next-is)

pub put_bytes-at_place-requires : goal.put_bytes-at_place-requires
put_bytes-at_place-requires c =
    omega (arith, few-digits 4 c.from.result (omega arith), c.put_bytes-at_number.ensures.next-is, c.put_decimal-at_word.ensures.next-is)

pub put_decimal-at_newline-requires : goal.put_decimal-at_newline-requires
put_decimal-at_newline-requires c =
    let number-few = few-digits 4 c.from.result (omega arith) in
    let place-few = few-digits 19 c.place.result (omega arith) in
    omega (arith, c.put_bytes-at_number.ensures.next-is, c.put_decimal-at_word.ensures.next-is, c.put_bytes-at_place.ensures.next-is)

pub put_bytes-requires : goal.put_bytes-requires
put_bytes-requires c =
    let number-few = few-digits 4 c.from.result (omega arith) in
    let place-few = few-digits 19 c.place.result (omega arith) in
    omega arith

pub returns : goal.returns
unfolding refusal_line
returns c =
    let number-few = few-digits 4 c.from.result (omega arith) in
    let place-few = few-digits 19 c.place.result (omega arith) in
    rw (← c.number.ensures, ← c.place.ensures, ← c.from.ensures)
    (put-fronts (omega (arith, number-few, place-few))
    (put_then c.put_bytes-at_number.ensures (put_then c.put_decimal-at_word.ensures (put_then c.put_bytes-at_place.ensures
    (put_then c.put_decimal-at_newline.ensures c.put_bytes.ensures)))))
