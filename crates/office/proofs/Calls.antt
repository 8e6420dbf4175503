-- The round trips as a caller of export and import sees them: from what the calls hand back and the outputs that they leave.
-- Assumes nothing.
use Rattle.ground.proofs.Kit.{ℕ, ◌≤◌, List, ◌++◌, ◌≡◌, refl, sym, ◌∙◌, ap, arith, ltb, length, take, drop, le-ltb, ltb-false, Ok, Err}
use lib.Seq.{take_at}
use Rattle.ground.proofs.Cases.{by_bool}
use Rattle.kinds.specs.declared.Task.{Task}
use Rattle.kinds.specs.Limits.{most_tasks}
use Rattle.kinds.specs.Answer.{Handed, accepted}
use Rattle.kinds.specs.declared.Refusal.TheVariants.{TooManyTasks, OutputTooShort}
use Rattle.kinds.proofs.Answers.{not-refused}
use Rattle.office.specs.Text.{text_of, AllFit}
use Rattle.office.specs.Reading.{Reading, read_text, rows_of}
use Rattle.office.specs.Carrying.{carry, carry_rows, import_handed, export_handed, after_carry, Imports, Exports}
use Rattle.office.proofs.RoundTrip.{import-of-export, export-of-import}

carried : (needed room k : ℕ) → carry needed room ≡ accepted k → (k ≡ needed) × (needed ≤ room)
carried needed room k e =
    by_bool (ltb room needed)
    (λ b. not-refused k 0 (OutputTooShort needed) (sym (rw b at e)))
    (λ b. (ap (λ (h : Handed ℕ). h.value) (sym (rw b at e)), ltb-false room needed b))

-- an accepted export: few tasks, and the length of their text
pub record Exported (rows : List Task) (k : ℕ) : Type 0 where
  pub few : length rows ≤ most_tasks
  pub size : k ≡ length (text_of rows)

exported : (rows : List Task) (room k : ℕ) → export_handed rows (length rows) room ≡ accepted k → Exported rows k
unfolding export_handed
exported rows room k e =
    by_bool (ltb most_tasks (length rows))
    (λ b. not-refused k 0 (TooManyTasks (length rows)) (sym (rw b at e)))
    (λ b. record { few = ltb-false most_tasks (length rows) b; size = (carried (length (text_of rows)) room k (rw b at e)).0 })

-- import after export gives the table back: the bytes that an accepted export wrote read as the rows
pub import-after-export : (rows : List Task) (old new : List ℕ) (k : ℕ) → AllFit rows → Exports rows (length rows) old (Ok k) new
    → read_text (take k new) ≡ Ok rows
import-after-export rows old new k m x =
    let w = exported rows (length old) k (sym x.answer) in
    let n : new ≡ text_of rows ++ drop k old = x.output ∙ ap (λ (h : Handed ℕ). after_carry h (text_of rows) old) (sym x.answer) in
    ap (λ (l : List ℕ). read_text (take k l)) n
    ∙ (ap read_text (take_at (text_of rows) (drop k old) k (sym w.size)) ∙ import-of-export rows w.few m)

-- an accepted import: the text reads as rows, and their count
pub record Imported (reading : Reading) (n : ℕ) : Type 0 where
  pub is : reading ≡ Ok (rows_of reading)
  pub count : n ≡ length (rows_of reading)

imported : (reading : Reading) (room n : ℕ) → carry_rows reading room ≡ accepted n → Imported reading n
imported (Ok rows) room n e = record { is = refl; count = (carried (length rows) room n e).0 }
imported (Err refusal) room n e = not-refused n 0 refusal (sym e)

imported-of : (text : List ℕ) (room n : ℕ) → import_handed text room ≡ accepted n → Imported (read_text text) n
unfolding import_handed
imported-of text room n e = imported (read_text text) room n e

roomy : (rows : List Task) (room : ℕ) → length rows ≤ most_tasks → length (text_of rows) ≤ room
    → export_handed rows (length rows) room ≡ accepted (length (text_of rows))
unfolding export_handed
roomy rows room h k = simp (le-ltb most_tasks (length rows) h, le-ltb room (length (text_of rows)) k)

-- export after an accepted import gives the text back: an output as long as the text takes the rows that were imported, as that text
pub record TextAgain (text : List ℕ) (rows : List Task) : Type 0 where
  pub accepts : export_handed rows (length rows) (length text) ≡ accepted (length text)
  pub same : text_of rows ≡ text

pub export-after-import : (text : List ℕ) (old new : List Task) (n : ℕ) → Imports text old (Ok n) new → TextAgain text (take n new)
export-after-import text old new n x =
    let l = imported-of text (length old) n (sym x.answer) in
    let rows = rows_of (read_text text) in
    let b = export-of-import text rows l.is in
    let i : new ≡ rows ++ drop n old = x.output ∙ ap (λ (h : Handed ℕ). after_carry h rows old) (sym x.answer) in
    let t : take n new ≡ rows = ap (take n) i ∙ take_at rows (drop n old) n (sym l.count) in
    let s : length (text_of rows) ≡ length text = ap length b.text in
    rw t (record { accepts = roomy rows (length text) b.few (omega arith) ∙ ap accepted s; same = b.text })
