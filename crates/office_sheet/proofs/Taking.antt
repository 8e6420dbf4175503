-- What is written for a sheet: the line of the reader's refusal, or the text of its table.
-- Assumes nothing.
use Rattle.ground.proofs.Kit.{ℕ, List, ◌≡◌, sym, ◌∙◌, ap, arith, length, Ok, Err}
use Rattle.kinds.specs.declared.Refusal.{Refusal}
use Rattle.kinds.specs.declared.Sheet.{Sheet}
use Rattle.kinds.specs.declared.Table.{Table}
use Rattle.kinds.specs.Refusal.{number_of, place_of}
use Rattle.kinds.specs.Answer.{Handed, accepted, refused, Counted}
use Rattle.sheet.specs.declared.Reading.{Reading}
use Rattle.sheet.specs.Reading.{read_sheet, handed_reading}
use Rattle.sheet.proofs.Handed.{handed-as}
use Rattle.office.specs.Text.{text_to, longest_text}
use Rattle.office.specs.Carrying.{export_handed, after_carry, Exports}
use Rattle.office.proofs.Answers.{after-refused, export-fits}
use Rattle.refusal_line.specs.Line.{refusal_line, or_line}
use Rattle.refusal_line.specs.Fronts.{FrontsOrRefuses}
use Rattle.refusal_line.proofs.Fronts.{fronts}
use Rattle.refusal_line.proofs.Lines.{line_of}
use Rattle.office_sheet.specs.Written.{taken_table, taken_out}

-- the text of a table
module _ (t : Table) (old : List ℕ) (room : length old ≡ longest_text) where
  handed : (h : Handed ℕ) → h ≡ export_handed t.rows t.n (length old) → taken_table t ≡ or_line h (λ n. text_to t.rows t.n)
  unfolding taken_table
  handed h e =
      sym (ap (λ (k : Handed ℕ). or_line k (λ n. text_to t.rows t.n)) (e ∙ ap (export_handed t.rows t.n) room))

  pub table_taken : (r : Counted) (new : List ℕ) → Exports t.rows t.n old r new → FrontsOrRefuses (taken_table t) old r new
  table_taken (Err q) new x = (
    handed (refused 0 q) x.answer ∙ line_of {A = ℕ} 0 q (λ n. text_to t.rows t.n),
    x.output ∙ (ap (λ (h : Handed ℕ). after_carry h (text_to t.rows t.n) old) (sym x.answer) ∙ after-refused q (text_to t.rows t.n) old),
  )
  table_taken (Ok k) new x =
      let text = text_to t.rows t.n in
      let a = export-fits t.rows t.n (length old) k (sym x.answer) in
      rw (handed (accepted k) x.answer)
      (fronts text old new k a.0 (omega (arith, a.0, a.1))
      (x.output ∙ ap (λ (h : Handed ℕ). after_carry h text old) (sym x.answer)))

-- a sheet, as the reader hands it back
module _ (s : List ℕ) (r : Reading) (read : handed_reading r ≡ read_sheet s) where
  pub sheet-refused : (q : Refusal) → r.verdict ≡ Err q → taken_out s ≡ refusal_line (number_of q) (place_of q)
  unfolding taken_out
  sheet-refused q v =
      ap (λ (h : Handed Sheet). or_line h (λ x. taken_table x.table)) (handed-as s r read (Err q) v)
      ∙ line_of r.sheet q (λ x. taken_table x.table)

  pub sheet-taken : r.verdict ≡ (Ok tt) → taken_out s ≡ taken_table r.sheet.table
  unfolding taken_out
  sheet-taken v = ap (λ (h : Handed Sheet). or_line h (λ x. taken_table x.table)) (handed-as s r read (Ok tt) v)
