-- A sheet that is read and written back, as C does by two calls.
-- Assumes nothing.
use Rattle.std.specs.Prelude.{ℕ, List, leb, length}
use Rattle.kinds.specs.declared.Refusal.TheVariants.{OutputTooShort}
use Rattle.kinds.specs.Answer.{Handed, accepted, demanded, unrefused, after}
use Rattle.sheet.specs.Reading.{read_sheet}

-- the reader's refusal; else 5 where there is too little room, else as many bytes as were read
unfoldable pub back_handed : List ℕ → ℕ → Handed ℕ
back_handed s room = unrefused 0 (read_sheet s) (λ x. demanded 0 (leb (length s) room) (OutputTooShort (length s)) (accepted (length s)))

-- the buffer after: the very bytes that were read, and then what stood there; where the call is refused, as it was
unfoldable pub after_back : List ℕ → List ℕ → List ℕ
after_back s old = after (back_handed s (length old)) s (length s) old
