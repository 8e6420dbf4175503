-- The rows that an import hands over: all that it read, or none where it is refused. They fit the room, and an output after the call is
-- these rows and then what stood there.
-- Assumes nothing.
use Rattle.ground.proofs.Kit.{ℕ, ◌≤◌, List, [], ◌++◌, append-nil, ◌≡◌, refl, ◌∙◌, ap, arith, length, drop, Ok, Err}
use lib.ListN.{drop_of_length-le}
use Rattle.ground.proofs.Cases.{by_le}
use Rattle.kinds.specs.declared.Task.{Task}
use Rattle.kinds.specs.declared.Refusal.{Refusal}
use Rattle.kinds.specs.declared.Refusal.TheVariants.{OutputTooShort}
use Rattle.kinds.specs.Limits.{most_tasks}
use Rattle.kinds.specs.Answer.{Handed, accepted, refused}
use Rattle.office.specs.Reading.{Reading, read_text, rows_of}
use Rattle.office.specs.Carrying.{import_handed, after_carry}
use Rattle.office.proofs.Answers.{after-refused, carry-short, carry-done, import-not, import-rows}
use Rattle.office.proofs.RoundTrip.{export-of-import}

pub record Lands (rows : List Task) (room : ℕ) (h : Handed ℕ) (landing : List Task) : Type 0 where
  pub few : length landing ≤ most_tasks
  pub fits : length landing ≤ room
  pub output : (old : List Task) → after_carry h rows old ≡ landing ++ drop (length landing) old

module _ (rows : List Task) (room : ℕ) (h : Handed ℕ) where
  lands-none : (r : Refusal) → h ≡ refused 0 r → Lands rows room h (after_carry h rows [])
  lands-none r e =
      let kept : (old : List Task) → after_carry h rows old ≡ old = λ old. ap (λ (x : Handed ℕ). after_carry x rows old) e ∙ after-refused r rows old in
      rw (kept []) (record { few = omega arith; fits = omega arith; output = kept })

  lands-all : h ≡ accepted (length rows) → length rows ≤ room → length rows ≤ most_tasks → Lands rows room h (after_carry h rows [])
  lands-all e fits few =
      let put : (old : List Task) → after_carry h rows old ≡ rows ++ drop (length rows) old = λ old. ap (λ (x : Handed ℕ). after_carry x rows old) e in
      let past : drop {A = Task} (length rows) [] ≡ [] = drop_of_length-le [] {i = length rows} (omega arith) in
      let z : after_carry h rows [] ≡ rows = put [] ∙ (ap (λ (l : List Task). rows ++ l) past ∙ append-nil rows) in
      rw z (record { few = few; fits = fits; output = put })

-- the rows that an import with so much room hands over
abbrev pub landing : List ℕ → ℕ → List Task
landing text room = after_carry (import_handed text room) (rows_of (read_text text)) []

pub lands : (text : List ℕ) (room : ℕ) → Lands (rows_of (read_text text)) room (import_handed text room) (landing text room)
lands text room = by (read_text text) refl
  where
    by : (reading : Reading) → read_text text ≡ reading → Lands (rows_of (read_text text)) room (import_handed text room) (landing text room)
    by (Err r) e = lands-none (rows_of (read_text text)) room (import_handed text room) r (import-not text room r e)
    by (Ok rows) e =
        let i = import-rows text room rows e in
        let same : rows_of (read_text text) ≡ rows = ap rows_of e in
        by_le (length rows) room
        (λ h.
        rw same
        (lands-all rows room (import_handed text room) (i ∙ carry-done (length rows) room h) h (export-of-import text rows e).few))
        (λ h. lands-none (rows_of (read_text text)) room (import_handed text room) (OutputTooShort (length rows)) (i ∙ carry-short (length rows) room h))

-- an accepted import hands over all that it read
pub all-landed : (text : List ℕ) (room n : ℕ) → import_handed text room ≡ accepted n → landing text room ≡ rows_of (read_text text)
all-landed text room n e =
    let rows = rows_of (read_text text) in
    let past : drop {A = Task} n [] ≡ [] = drop_of_length-le [] {i = n} (omega arith) in
    ap (λ (h : Handed ℕ). after_carry h rows []) e ∙ (ap (λ (l : List Task). rows ++ l) past ∙ append-nil rows)
