-- Both round trips between bytes and sheets, as the promises of `read` and `write` give them, and when a sheet is its own canonical form.
-- Assumes nothing.
use Rattle.ground.proofs.Kit.{ℕ, ◌+◌, ◌*◌, ◌≤◌, true, List, ◌++◌, ◌≡◌, refl, sym, ◌∙◌, ap, leb, length, take, drop, le-leb, Ok}
use lib.Seq.{take_at}
use Rattle.ground.specs.Laid.{over}
use Rattle.ground.proofs.Laid.{over-long, over-out, over-is, padded-to-long, padded-to-is, padded-to-out}
use Rattle.kinds.specs.declared.Task.{Task}
use Rattle.kinds.specs.declared.Granted.{Granted}
use Rattle.kinds.specs.declared.Sheet.{Sheet}
use Rattle.kinds.specs.declared.Refusal.TheVariants.{OutputTooShort}
use Rattle.kinds.specs.Limits.{most_settings, most_tasks}
use Rattle.kinds.specs.Task.{no_task, at}
use Rattle.kinds.specs.Policy.{meant}
use Rattle.kinds.specs.Settings.{fill_ins, setting, settings_of, numbers_of}
use Rattle.kinds.specs.Answer.{accepted, demanded, after, Counted}
use Rattle.kinds.proofs.Numbers.{numbers-back, settings-back, meant-of}
use Rattle.field.specs.Number.{Bytes, u16_at}
use Rattle.sheet.specs.Sections.{setting_size, task_size, granted_size, numbers_place, records_place, granted_place, settings_fit, results_fit}
use Rattle.sheet.specs.Rows.{no_granted, task_at, granted_at}
use Rattle.sheet.specs.Reading.{settings_count, task_count, result_count, numbers_in, sheet_in, read_sheet}
use Rattle.sheet.proofs.Whole.{whole, few-settings, few-results}
use Rattle.kinds.proofs.Answers.{count-one}
use Rattle.writer.specs.Encode.{encode, length_of}
use Rattle.writer.specs.Writing.{write_sheet, after_write, Writes}
use Rattle.writer.specs.Canonical.{setting_in, granted_in, canonical, SheetStorable}
use Rattle.writer.proofs.Rows.{encode-long}
use Rattle.writer.proofs.Answers.{accepts, accepted-after}
use Rattle.writer.proofs.Back.{back}
use Rattle.writer.proofs.Forth.{forth}

-- whatever bytes the reader accepts, writing what was read gives the same bytes
module _ (s : List ℕ) (bytes : Bytes s) (x : Sheet) (e : read_sheet s ≡ accepted x) where
  pub read-encode : encode x ≡ s
  read-encode = let w = whole s x e in ap encode w.1 ∙ back s bytes w.0

  read_length : length_of x ≡ length s
  read_length = sym (encode-long x) ∙ ap length read-encode

  -- what the writer judges of it
  read_taken : settings_fit x.count ≡ true
  unfolding sheet_in
  read_taken = let w = whole s x e in ap (λ (y : Sheet). settings_fit y.count) w.1 ∙ w.0.settings

  read-few : x.table.n ≤ most_tasks
  unfolding sheet_in
  read-few = let w = whole s x e in rw (ap (λ (y : Sheet). y.table.n) w.1) w.0.few

  read-fit : results_fit x.results.n x.table.n ≡ true
  unfolding sheet_in
  read-fit = let w = whole s x e in ap (λ (y : Sheet). results_fit y.results.n y.table.n) w.1 ∙ w.0.fit

  -- into any buffer: refused by 5 where there is too little room, else the same bytes
  pub read-handed : (room : ℕ) → write_sheet x room ≡ demanded 0 (leb (length s) room) (OutputTooShort (length s)) (accepted (length s))
  unfolding write_sheet
  read-handed room = rw (read_taken, le-leb x.table.n most_tasks read-few, read-fit, read_length)

  pub read-after : (old : List ℕ) → after_write x old ≡ after (write_sheet x (length old)) s (length s) old
  unfolding after_write
  read-after old = rw (read-encode, read_length)

  -- into one that has the room
  pub read-write : (old new : List ℕ) (r : Counted) → Writes x old r new → length s ≤ length old
      → (r ≡ Ok (length s)) × (new ≡ s ++ drop (length s) old)
  read-write old new r p room =
      let a : write_sheet x (length old) ≡ accepted (length s) = read-handed (length old) ∙ rw (le-leb (length s) (length old) room) in (
        count-one r (Ok (length s)) (p.answer ∙ a),
        p.buffer ∙ (read-after old ∙ rw a),
      )

-- writing a sheet and reading it gives its canonical form
pub write_read : (x : Sheet) → SheetStorable x → (old new : List ℕ) (k : ℕ) → Writes x old (Ok k) new → read_sheet (take k new) ≡ accepted (canonical x)
write_read x h old new k p =
    let a = accepts x (length old) k (sym p.answer) in
    let front : take k new ≡ encode x =
    ap (take k) (p.buffer ∙ accepted-after x old k (sym p.answer)) ∙ take_at (encode x) (drop (length_of x) old) k (encode-long x ∙ sym a.is) in
    ap read_sheet front ∙ forth x h a.settings a.few a.fit

-- its policy is the one meant, its numbers past the settings count are those that are filled in, and its unused places are zeros
pub record Canonical (x : Sheet) : Type 0 where
  pub policy-meant : meant x.settings.policy ≡ x.settings.policy
  pub settings-unused : (i : ℕ) → x.count ≤ i → setting_in x i ≡ setting fill_ins i
  pub tasks-unused : (i : ℕ) → x.table.n ≤ i → at x.table.rows i ≡ no_task
  pub results-unused : (i : ℕ) → x.results.n ≤ i → granted_in x i ≡ no_granted

-- exactly then a sheet is its own canonical form
pub canonical-same : (x : Sheet) → length x.table.rows ≡ most_tasks → length x.results.rows ≡ most_tasks → x.count ≤ most_settings
    → x.table.n ≤ most_tasks → x.results.n ≤ most_tasks
    → Canonical x → canonical x ≡ x
unfolding canonical
canonical-same x room room' most few few' c =
    let numbers = over-is fill_ins (setting_in x) 0 x.count (numbers_of x.settings) most refl (λ i l. refl) c.settings-unused in
    let settings = ap settings_of numbers ∙ settings-back x.settings c.policy-meant in
    let tasks = padded-to-is no_task most_tasks (at x.table.rows) x.table.n x.table.rows few room (λ i l. refl) c.tasks-unused in
    let results = padded-to-is no_granted most_tasks (granted_in x) x.results.n x.results.rows few' room' (λ i l. refl) c.results-unused in
    λ i.
    record {
      count = x.count;
      settings = settings i;
      table = record { rows = tasks i; n = x.table.n };
      results = record { rows = results i; n = x.results.n };
    }

pub same-canonical : (x : Sheet) → canonical x ≡ x → Canonical x
unfolding canonical
same-canonical x e =
    let numbers = over fill_ins (setting_in x) x.count in
    let policy = ap (λ (y : Sheet). y.settings.policy) e in
    let back = numbers-back numbers (over-long fill_ins (setting_in x) x.count) in
    record {
      policy-meant = ap meant (sym policy) ∙ (meant-of numbers ∙ policy);
      settings-unused = λ i l.
          sym (ap (λ (y : Sheet). setting_in y i) e) ∙ (ap (λ (k : List ℕ). setting k i) back ∙ over-out fill_ins (setting_in x) 0 x.count i l);
      tasks-unused = λ i l. sym (ap (λ (y : Sheet). at y.table.rows i) e) ∙ padded-to-out no_task most_tasks (at x.table.rows) x.table.n i l;
      results-unused = λ i l. sym (ap (λ (y : Sheet). granted_in y i) e) ∙ padded-to-out no_granted most_tasks (granted_in x) x.results.n i l;
    }

-- a sheet that was read is its own canonical form
pub read-canonical : (s : List ℕ) (x : Sheet) → read_sheet s ≡ accepted x → canonical x ≡ x
unfolding sheet_in
read-canonical s x e =
    let w = whole s x e in
    let c = settings_count s in
    let numbers : ℕ → ℕ = λ i. u16_at s (numbers_place + setting_size * i) in
    let tasks : ℕ → Task = λ i. task_at s (records_place c + task_size * i) in
    let results : ℕ → Granted = λ i. granted_at s (granted_place c (task_count s) + granted_size * i) in
    rw w.1
    (canonical-same (sheet_in s)
    (padded-to-long no_task most_tasks tasks (task_count s))
    (padded-to-long no_granted most_tasks results (result_count s))
    (few-settings w.0)
    w.0.few
    (few-results w.0)
    (record {
      policy-meant = meant-of (numbers_in s);
      settings-unused = λ i l. ap (λ (k : List ℕ). setting k i) (numbers-back (numbers_in s) (over-long fill_ins numbers c)) ∙ over-out fill_ins numbers 0 c i l;
      tasks-unused = padded-to-out no_task most_tasks tasks (task_count s);
      results-unused = padded-to-out no_granted most_tasks results (result_count s);
    }))
