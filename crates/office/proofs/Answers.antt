-- What import and export answer in each case, with the output after it, and that no second answer meets either promise.
-- Assumes nothing.
use Rattle.ground.proofs.Kit.{ℕ, ◌≤◌, ◌<◌, List, [], ◌++◌, append-nil, ◌≡◌, refl, sym, ◌∙◌, ap, ap₂, arith, length, take, drop, length-take-le, Option, None, ne_eqb, lt-ltb, le-ltb, Ok, Err}
use lib.ListN.{drop_of_length-le}
use Rattle.std.specs.List.{slice_range}
use Rattle.std.specs.Option.{ok_or}
use Rattle.std.proofs.lemmas.Slice.{between_from_start}
use Rattle.std.proofs.lemmas.List.{get_or-take}
use Rattle.ground.proofs.Cases.{by_le}
use Rattle.ground.proofs.Joins.{join-cong}
use Rattle.kinds.specs.declared.Task.{Task}
use Rattle.kinds.specs.declared.Table.{Table}
use Rattle.kinds.specs.declared.Refusal.{Refusal}
use Rattle.kinds.specs.declared.Refusal.TheVariants.{TooManyTasks, OutputTooShort}
use Rattle.kinds.specs.Limits.{most_tasks}
use Rattle.kinds.specs.Task.{at, no_task, table_of}
use Rattle.kinds.specs.Refusal.{number_of}
use Rattle.kinds.specs.Answer.{Handed, accepted, refused, Counted}
use Rattle.kinds.proofs.Refusals.{refusal-numbered}
use Rattle.kinds.proofs.Answers.{not-refused, count-one}
use Rattle.field.specs.Handover.{Put}
use Rattle.field.proofs.Stores.{stored-front}
use Rattle.office.specs.declared.Imported.{Imported}
use Rattle.office.specs.Text.{line_of, row_line, text_to, text_of}
use Rattle.office.specs.Reading.{read_text, rows_of}
use Rattle.office.specs.Carrying.{carry, import_handed, export_handed, after_carry, Imports, Exports, Reads}
use Rattle.office.specs.Handover.{imported_not}
use Rattle.office.proofs.Lines.{Going, going_end}

-- a refused call leaves what it was lent
pub after-refused : {A : Type 0} (r : Refusal) (new old : List A) → after_carry (refused 0 r) new old ≡ old
after-refused r new old = rw (ne_eqb (number_of r) 0 (λ z. omega (arith, refusal-numbered r)))

-- the refusal that stands for a value that is not there
pub refused-none : {A : Type 0} (value : Option A) (refusal r : Refusal) → Err r ≡ ok_or value refusal → value ≡ None → r ≡ refusal
refused-none value refusal r e none = let f = rw none at e in cc

module _ (needed room : ℕ) where
  pub carry-short : room < needed → carry needed room ≡ refused 0 (OutputTooShort needed)
  carry-short h = simp (lt-ltb room needed h)

  pub carry-done : needed ≤ room → carry needed room ≡ accepted needed
  carry-done h = simp (le-ltb room needed h)

-- ---- import
module _ (s : List ℕ) (room : ℕ) where
  pub import-not : (r : Refusal) → read_text s ≡ Err r → import_handed s room ≡ refused 0 r
  unfolding import_handed
  import-not r e = rw e

  pub import-rows : (rows : List Task) → read_text s ≡ Ok rows → import_handed s room ≡ carry (length rows) room
  unfolding import_handed
  import-rows rows e = rw e

  reads-refused : (r : Refusal) → import_handed s room ≡ refused 0 r → Reads s room (imported_not r)
  reads-refused r e =
      record {
        answer = sym e;
        table = ap table_of (sym (ap (λ (h : Handed ℕ). after_carry h (rows_of (read_text s)) []) e ∙ after-refused r (rows_of (read_text s)) []));
      }

  pub reads-not : (r : Refusal) → read_text s ≡ Err r → Reads s room (imported_not r)
  reads-not r e = reads-refused r (import-not r e)

  -- where the text has come to its end
  module _ (array : List Task) (at n : ℕ) (g : Going s array at n) (h : length s ≤ at) where
    handed : import_handed s room ≡ carry n room
    handed = import-rows g.rows (going_end s array at n g h) ∙ ap (λ (k : ℕ). carry k room) g.count

    pub reads_short : room < n → Reads s room (imported_not (OutputTooShort n))
    reads_short q = reads-refused (OutputTooShort n) (handed ∙ carry-short n room q)

    pub reads-done : n ≤ room → Reads s room (record { answer = Ok n; table = record { rows = array; n = n } })
    reads-done q =
        let e = handed ∙ carry-done n room q in
        let r : rows_of (read_text s) ≡ g.rows = ap rows_of (going_end s array at n g h) in
        let t : after_carry (import_handed s room) (rows_of (read_text s)) [] ≡ g.rows =
        ap (λ (x : Handed ℕ). after_carry x (rows_of (read_text s)) []) e ∙ (ap (λ (l : List Task). l ++ drop n []) r ∙ none g.rows n) in
        let p = g.placed in
        let c = g.count in
        record { answer = sym e; table = cc t }
      where
        none : (l : List Task) (k : ℕ) → l ++ drop k [] ≡ l
        none l k = let e : drop {A = Task} k [] ≡ [] = drop_of_length-le [] {i = k} (omega arith) in ap (λ (x : List Task). l ++ x) e ∙ append-nil l

-- ---- export
many-of : (rows : List Task) (n room : ℕ) → most_tasks < n → export_handed rows n room ≡ refused 0 (TooManyTasks n)
unfolding export_handed
many-of rows n room h = simp (lt-ltb most_tasks n h)

few-of : (rows : List Task) (n room : ℕ) → n ≤ most_tasks → (needed : ℕ) → needed ≡ length (text_to rows n) → export_handed rows n room ≡ carry needed room
unfolding export_handed
few-of rows n room h needed e = simp (le-ltb most_tasks n h, ← e)

-- the text of the first n rows, as that of their list
pub text-first : (rows first : List Task) (n : ℕ) → first ≡ slice_range rows 0 n → n ≤ length rows → text_of first ≡ text_to rows n
text-first rows first n e h =
    let f = e ∙ between_from_start rows n in
    let l = ap length f ∙ length-take-le n rows h in
    ap text_of f ∙ (ap (λ (k : ℕ). text_to (take n rows) k) (length-take-le n rows h)
    ∙ join-cong (row_line (take n rows)) (row_line rows) n (λ i k. ap line_of (get_or-take n rows i no_task k)))

module _ (rows : List Task) (n : ℕ) (old : List ℕ) where
  refused-keeps : (r : Refusal) → export_handed rows n (length old) ≡ refused 0 r → Exports rows n old (Err r) old
  refused-keeps r e =
      record { answer = sym e; output = sym (ap (λ (h : Handed ℕ). after_carry h (text_to rows n) old) e ∙ after-refused r (text_to rows n) old) }

  pub exports-many : most_tasks < n → Exports rows n old (Err (TooManyTasks n)) old
  exports-many h = refused-keeps (TooManyTasks n) (many-of rows n (length old) h)

  module _ (h : n ≤ most_tasks) (needed : ℕ) (e : needed ≡ length (text_to rows n)) where
    pub exports-short : length old < needed → Exports rows n old (Err (OutputTooShort needed)) old
    exports-short q = refused-keeps (OutputTooShort needed) (few-of rows n (length old) h needed e ∙ carry-short needed (length old) q)

  module _ (h : n ≤ most_tasks) (q : length (text_to rows n) ≤ length old) where
    pub exports-done : (written : ℕ) (new : List ℕ) → Put old 0 (length (text_to rows n)) (text_to rows n) written new → Exports rows n old (Ok written) new
    exports-done written new p =
        let e : written ≡ length (text_to rows n) = omega (arith, p.next-is) in
        let k : export_handed rows n (length old) ≡ accepted written =
        few-of rows n (length old) h written e ∙ carry-done written (length old) (omega arith) in
        record {
          answer = sym k;
          output =
              p.new_is
              ∙ (stored-front old (text_to rows n) written (sym e) (omega arith)
              ∙ sym (ap (λ (h : Handed ℕ). after_carry h (text_to rows n) old) k));
        }

-- an accepted export has the text's length, and there is room for it
pub export-fits : (rows : List Task) (n room k : ℕ) → export_handed rows n room ≡ accepted k → (k ≡ length (text_to rows n)) × (length (text_to rows n) ≤ room)
export-fits rows n room k e =
    let size = length (text_to rows n) in
    by_le n most_tasks
    (λ h.
    let c = few-of rows n room h size refl in
    by_le size room
    (λ l. (ap (λ (h : Handed ℕ). h.value) (sym e ∙ (c ∙ carry-done size room l)), l))
    (λ l. not-refused k 0 (OutputTooShort size) (sym e ∙ (c ∙ carry-short size room l))))
    (λ h. not-refused k 0 (TooManyTasks n) (sym e ∙ many-of rows n room h))

-- ---- no second answer
pub import-one : (text : List ℕ) (old : List Task) (r q : Counted) (new other : List Task) → Imports text old r new → Imports text old q other
    → (r ≡ q) × (new ≡ other)
import-one text old r q new other a b = (count-one r q (a.answer ∙ sym b.answer), a.output ∙ sym b.output)

pub export-one : (rows : List Task) (n : ℕ) (old : List ℕ) (r q : Counted) (new other : List ℕ) → Exports rows n old r new → Exports rows n old q other
    → (r ≡ q) × (new ≡ other)
export-one rows n old r q new other a b = (count-one r q (a.answer ∙ sym b.answer), a.output ∙ sym b.output)

pub read_one : (text : List ℕ) (room : ℕ) (r q : Imported) → Reads text room r → Reads text room q → r ≡ q
read_one text room r q a b =
    let x = count-one r.answer q.answer (a.answer ∙ sym b.answer) in
    let y = a.table ∙ sym b.table in
    ap₂ (λ (answer : Counted) (table : Table). record { answer = answer; table = table }) x y

-- ---- rows that agree as far as they count are exported alike
module _ (rows other : List Task) (n : ℕ) (agree : n ≤ most_tasks → (i : ℕ) → i < n → at rows i ≡ at other i) where
  text_same : ((i : ℕ) → i < n → at rows i ≡ at other i) → text_to rows n ≡ text_to other n
  text_same same = join-cong (row_line rows) (row_line other) n (λ i l. ap line_of (same i l))

  pub handed-same : (room : ℕ) → export_handed rows n room ≡ export_handed other n room
  unfolding export_handed
  handed-same room = by_le n most_tasks (λ h. rw (text_same (agree h))) (λ h. rw (lt-ltb most_tasks n h))

  pub after_same : (old : List ℕ)
      → after_carry (export_handed rows n (length old)) (text_to rows n) old
      ≡ after_carry (export_handed other n (length old)) (text_to other n) old
  unfolding export_handed
  after_same old = by_le n most_tasks (λ h. rw (text_same (agree h))) (λ h. rw (lt-ltb most_tasks n h))
