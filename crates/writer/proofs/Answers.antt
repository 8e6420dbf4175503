-- What the writer answers where it accepts, with the buffer after it, and that no second answer meets its promise.
-- Assumes nothing.
use Rattle.ground.proofs.Kit.{ℕ, ◌≤◌, true, List, ◌++◌, ◌≡◌, sym, ◌∙◌, ap, arith, leb, length, drop, le-leb, leb-true, Ok}
use Rattle.kinds.specs.declared.Sheet.{Sheet}
use Rattle.kinds.specs.declared.Refusal.TheVariants.{TooManyTasks, OutputTooShort, WrongSettingsCount, WrongResultCount}
use Rattle.kinds.specs.Limits.{most_tasks}
use Rattle.kinds.specs.Answer.{Handed, accepted, Counted}
use Rattle.field.specs.Handover.{Put}
use Rattle.field.proofs.Stores.{stored-front}
use Rattle.sheet.specs.Sections.{settings_fit, results_fit}
use Rattle.kinds.proofs.Answers.{count-one}
use Rattle.kinds.proofs.Chain.{judged-passed}
use Rattle.writer.specs.Encode.{encode, length_of}
use Rattle.writer.specs.Writing.{write_sheet, after_write, Writes}

module _ (x : Sheet) (old : List ℕ) where
  -- where the counts are right and there is room: the sheet's bytes, and nothing past them
  pub wrote : settings_fit x.count ≡ true → x.table.n ≤ most_tasks → results_fit x.results.n x.table.n ≡ true → length_of x ≤ length old
      → (written : ℕ) (new : List ℕ) → Put old 0 (length_of x) (encode x) written new → Writes x old (Ok written) new
  unfolding write_sheet after_write
  wrote s a b d written new p =
      let e : written ≡ length_of x = omega (arith, p.next-is) in
      record {
        answer = rw (s, le-leb x.table.n most_tasks a, b, le-leb (length_of x) (length old) d) (ap accepted e);
        buffer =
            rw (s, le-leb x.table.n most_tasks a, b, le-leb (length_of x) (length old) d)
            (p.new_is ∙ stored-front old (encode x) (length_of x) p.run_long d);
      }

-- an accepted call: the counts were right, there was room, and the length written is the sheet's
pub record Accepts (x : Sheet) (room k : ℕ) : Type 0 where
  pub settings : settings_fit x.count ≡ true
  pub few : x.table.n ≤ most_tasks
  pub fit : results_fit x.results.n x.table.n ≡ true
  pub fits : length_of x ≤ room
  pub is : k ≡ length_of x

pub accepts : (x : Sheet) (room k : ℕ) → write_sheet x room ≡ accepted k → Accepts x room k
unfolding write_sheet
accepts x room k e =
    let p₀ = judged-passed 0 (settings_fit x.count) WrongSettingsCount _ e in
    let p₁ = judged-passed 0 (leb x.table.n most_tasks) (TooManyTasks x.table.n) _ p₀.1 in
    let p₂ = judged-passed 0 (results_fit x.results.n x.table.n) (WrongResultCount 0) _ p₁.1 in
    let p₃ = judged-passed 0 (leb (length_of x) room) (OutputTooShort (length_of x)) _ p₂.1 in
    record {
      settings = p₀.0;
      few = leb-true x.table.n most_tasks p₁.0;
      fit = p₂.0;
      fits = leb-true (length_of x) room p₃.0;
      is = ap (λ (h : Handed ℕ). h.value) (sym p₃.1);
    }

pub write-accepts : (x : Sheet) (room : ℕ) → settings_fit x.count ≡ true → x.table.n ≤ most_tasks → results_fit x.results.n x.table.n ≡ true
    → length_of x ≤ room
    → write_sheet x room ≡ accepted (length_of x)
unfolding write_sheet
write-accepts x room s a b d = rw (s, le-leb x.table.n most_tasks a, b, le-leb (length_of x) room d)

-- the buffer after an accepted call
pub accepted-after : (x : Sheet) (old : List ℕ) (k : ℕ) → write_sheet x (length old) ≡ accepted k → after_write x old ≡ encode x ++ drop (length_of x) old
unfolding after_write
accepted-after x old k e = rw e

-- no second answer, with its buffer, meets the promise of `write`
pub write-one : (x : Sheet) (old : List ℕ) (r q : Counted) (new other : List ℕ) → Writes x old r new → Writes x old q other → (r ≡ q) × (new ≡ other)
write-one x old r q new other a b = (count-one r q (a.answer ∙ sym b.answer), a.buffer ∙ sym b.buffer)
