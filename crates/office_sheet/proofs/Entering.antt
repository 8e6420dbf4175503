-- What is written for the arguments and a text: the line of the first refusal, or the sheet.
-- Assumes nothing.
use Rattle.ground.proofs.Kit.{ℕ, Result, Option, Some, None, ltb, ◌≤◌, ◌<◌, List, ◌++◌, ◌≡◌, refl, sym, ◌∙◌, ap, arith, length, drop, lt-ltb, le-ltb, Ok, Err}
use Rattle.std.specs.Result.{OkIff, result_ok}
use Rattle.ground.specs.Choice.{pick}
use Rattle.kinds.specs.declared.Refusal.{Refusal}
use Rattle.kinds.specs.declared.Refusal.TheVariants.{NoSuchPolicy, Misset}
use Rattle.kinds.specs.declared.Sheet.{Sheet}
use Rattle.kinds.specs.declared.Table.{Table}
use Rattle.kinds.specs.Limits.{most_tasks}
use Rattle.kinds.specs.Refusal.{number_of, place_of}
use Rattle.kinds.specs.Answer.{Handed, handed_count, Counted}
use Rattle.kinds.specs.Task.{table_of}
use Rattle.kinds.proofs.Answers.{not-refused}
use Rattle.sheet.specs.Sections.{longest_sheet, settings_fit, results_fit}
use Rattle.writer.specs.Encode.{encode, length_of}
use Rattle.writer.specs.Writing.{Writes}
use Rattle.writer.proofs.Rows.{encode-long}
use Rattle.writer.proofs.Answers.{accepts, write-accepts, accepted-after}
use Rattle.office.specs.declared.Imported.{Imported}
use Rattle.office.specs.Reading.{read_text, rows_of}
use Rattle.office.specs.Carrying.{import_handed, Reads}
use Rattle.office.proofs.Landing.{lands, all-landed}
use Rattle.refusal_line.specs.Line.{refusal_line, or_line}
use Rattle.refusal_line.specs.Fronts.{Fronts, FrontsOrRefuses}
use Rattle.refusal_line.proofs.Fronts.{fronts}
use Rattle.refusal_line.proofs.Lines.{line_of}
use Rattle.office_sheet.specs.Written.{greatest_setting, setting_of, handed_setting, sheet_with, entered_text, entered}

-- a number is a setting where a field of 2 bytes takes it
pub setting_tried : {E : Type 0} (v : ℕ) (tried : Result ℕ E) → OkIff tried (v < 65536) v → result_ok tried ≡ pick (ltb greatest_setting v) None (Some v)
setting_tried v (Ok r) t = rw (le-ltb greatest_setting v (omega (arith, t.0)), t.1)
setting_tried v (Err e) t = rw (lt-ltb greatest_setting v (omega (arith, t)))

-- the arguments, one after the other
module _ (policy processors text : List ℕ) where
  with-policy : Option ℕ → List ℕ
  with-policy s =
      or_line (handed_setting NoSuchPolicy s) (λ p. or_line (handed_setting Misset (setting_of processors)) (λ m. entered_text p m text))

  pub policy-bad : setting_of policy ≡ None → entered policy processors text ≡ refusal_line 1 0
  unfolding entered with-policy
  policy-bad e =
      ap with-policy e
      ∙ line_of {A = ℕ} 0 NoSuchPolicy (λ p. or_line (handed_setting Misset (setting_of processors)) (λ m. entered_text p m text))

  module _ (p : ℕ) (e : setting_of policy ≡ Some p) where
    pub processors-bad : setting_of processors ≡ None → entered policy processors text ≡ refusal_line 2 0
    unfolding entered with-policy
    processors-bad f =
        ap with-policy e
        ∙ (ap (λ (s : Option ℕ). or_line (handed_setting Misset s) (λ m. entered_text p m text)) f
        ∙ line_of {A = ℕ} 0 Misset (λ m. entered_text p m text))

    pub text-entered : (m : ℕ) → setting_of processors ≡ Some m → entered policy processors text ≡ entered_text p m text
    unfolding entered with-policy
    text-entered m f =
        ap with-policy e ∙ ap (λ (s : Option ℕ). or_line (handed_setting Misset s) (λ m. entered_text p m text)) f

-- the text
module _ (p m : ℕ) (text : List ℕ) (i : Imported) (reads : Reads text most_tasks i) where
  handed-as : (r : Counted) → i.answer ≡ r → import_handed text most_tasks ≡ handed_count r
  handed-as r e = sym reads.answer ∙ ap handed_count e

  pub text-refused : (q : Refusal) → i.answer ≡ Err q → entered_text p m text ≡ refusal_line (number_of q) (place_of q)
  unfolding entered_text
  text-refused q e =
      ap (λ (h : Handed ℕ). or_line h (λ n. encode (sheet_with p m (table_of (rows_of (read_text text)))))) (handed-as (Err q) e)
      ∙ line_of {A = ℕ} 0 q (λ n. encode (sheet_with p m (table_of (rows_of (read_text text)))))

  pub table-few : i.table.n ≤ most_tasks
  table-few = let c = ap (λ (t : Table). t.n) reads.table in omega (arith, (lands text most_tasks).few)

  pub text-taken : (n : ℕ) → i.answer ≡ Ok n → entered_text p m text ≡ encode (sheet_with p m i.table)
  unfolding entered_text
  text-taken n e =
      let h = handed-as (Ok n) e in
      let all = all-landed text most_tasks n h in
      ap (λ (h : Handed ℕ). or_line h (λ n. encode (sheet_with p m (table_of (rows_of (read_text text)))))) h
      ∙ ap (λ (t : Table). encode (sheet_with p m t)) (ap table_of (sym all) ∙ sym reads.table)

-- the sheet that is written
module _ (p m : ℕ) (t : Table) (few : t.n ≤ most_tasks) (old new : List ℕ) (room : longest_sheet ≤ length old) where
  abbrev x : Sheet
  x = sheet_with p m t

  unrefused : (q : Refusal) {B : Type 0} → Writes x old (Err q) new → B
  unfolding settings_fit results_fit
  unrefused q w = not-refused (length_of x) 0 q (sym (write-accepts x (length old) refl few refl (omega arith)) ∙ sym w.answer)

  sheet-fronts : (k : ℕ) → Writes x old (Ok k) new → Fronts (encode x) old k new
  sheet-fronts k w =
      let e = sym w.answer in
      let a = accepts x (length old) k e in
      fronts (encode x) old new k (a.is ∙ sym (encode-long x)) (omega (arith, a.fits, a.is))
      (w.buffer ∙ (accepted-after x old k e ∙ ap (λ (n : ℕ). encode x ++ drop n old) (sym a.is)))

  pub sheet-written : (r : Counted) → Writes x old r new → FrontsOrRefuses (encode x) old r new
  sheet-written (Ok k) w = sheet-fronts k w
  sheet-written (Err q) w = unrefused q w
