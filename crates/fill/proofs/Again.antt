-- The program run on its own output: a sheet that it wrote gives the same bytes, and the line of a refusal is refused as no sheet.
-- Assumes nothing.
use Rattle.ground.proofs.Kit.{ℕ, ◌≤◌, true, false, List, ◌≡◌, refl, sym, ◌∙◌, ap, arith}
use Rattle.kinds.specs.declared.Sheet.{Sheet}
use Rattle.kinds.specs.declared.Refusal.TheVariants.{WrongSettingsCount}
use Rattle.kinds.specs.Limits.{most_settings, most_tasks}
use Rattle.kinds.specs.Answer.{accepted}
use Rattle.plain_finder.specs.Asked.{asked}
use Rattle.field.specs.Number.{Bytes, number_at}
use Rattle.sheet.specs.Sections.{settings_fit}
use Rattle.sheet.specs.Reading.{no_sheet, settings_count, sheet_in, read_sheet}
use Rattle.sheet.proofs.Whole.{Whole, whole, whole-accepted}
use Rattle.sheet.proofs.Stages.{settings-few, settings-wrong}
use Rattle.writer.specs.Encode.{encode}
use Rattle.writer.specs.Canonical.{canonical}
use Rattle.writer.proofs.Forth.{forth}
use Rattle.writer.proofs.RoundTrip.{canonical-same, same-canonical, read-canonical}
use Rattle.fill.specs.Results.{results_of, with_plan}
use Rattle.refusal_line.specs.Line.{refusal_line}
use Rattle.refusal_line.proofs.Lines.{line-long}
use Rattle.fill.specs.Fill.{filled}
use Rattle.fill.proofs.Plans.{plan-fits}
use Rattle.fill.proofs.Readings.{filled-unread, filled-planned}
use Rattle.fill.proofs.Held.{plan-room, plan-unused, planned-held}

-- planning a sheet again changes nothing
asked-again : (x : Sheet) (k : ℕ) → asked x ≡ accepted k → asked (with_plan x k) ≡ accepted k
unfolding with_plan asked
asked-again x k e = e

planned-again : (x : Sheet) (k : ℕ) → with_plan (with_plan x k) k ≡ with_plan x k
unfolding with_plan
planned-again x k = refl

sheet-few : (s : List ℕ) → Whole s → (sheet_in s).table.n ≤ most_tasks
unfolding sheet_in
sheet-few s w = w.few

sheet-taken : (s : List ℕ) → Whole s → settings_fit (sheet_in s).count ≡ true
unfolding sheet_in
sheet-taken s w = w.settings

sheet-most : (s : List ℕ) → Whole s → (sheet_in s).count ≤ most_settings
sheet-most s w = settings-few (sheet_in s).count (sheet-taken s w)

-- the sheet that is written for a sheet in bytes reads as it is
module _ (s : List ℕ) (bytes : Bytes s) (w : Whole s) (k : ℕ) (e : asked (sheet_in s) ≡ accepted k) where
  planned-canonical : canonical (with_plan (sheet_in s) k) ≡ with_plan (sheet_in s) k
  unfolding with_plan results_of
  planned-canonical =
      let c = same-canonical (sheet_in s) (read-canonical s (sheet_in s) (whole-accepted s w)) in
      canonical-same (with_plan (sheet_in s) k) (planned-held s bytes w k e).tasks-room (plan-room (sheet_in s) k)
      (sheet-most s w) (sheet-few s w) (sheet-few s w)
      (record {
        policy-meant = c.policy-meant;
        settings-unused = c.settings-unused;
        tasks-unused = c.tasks-unused;
        results-unused = plan-unused (sheet_in s) k;
      })

  pub reads-again : read_sheet (encode (with_plan (sheet_in s) k)) ≡ accepted (with_plan (sheet_in s) k)
  unfolding with_plan results_of
  reads-again =
      forth (with_plan (sheet_in s) k) (planned-held s bytes w k e) (sheet-taken s w) (sheet-few s w) (plan-fits (sheet_in s).table.n)
      ∙ ap accepted planned-canonical

  fills-again : filled (filled s) ≡ filled s
  fills-again =
      let x = sheet_in s in
      let is : filled s ≡ encode (with_plan x k) = filled-planned s x k (whole-accepted s w) e in
      rw is
      (filled-planned (encode (with_plan x k)) (with_plan x k) k reads-again (asked-again x k e)
      ∙ ap encode (planned-again x k))

-- whatever bytes were read, planned and written
pub sheet-again : (s : List ℕ) → Bytes s → (x : Sheet) → read_sheet s ≡ accepted x → (k : ℕ) → asked x ≡ accepted k → filled (filled s) ≡ filled s
sheet-again s bytes x read k e =
    let w = whole s x read in
    fills-again s bytes w.0 k (rw w.1 at e)

-- a line starts with other bytes than a settings count that is taken
other-count : (number place : ℕ) → settings_fit (settings_count (refusal_line number place)) ≡ false
unfolding settings_fit settings_count refusal_line number_at
other-count number place = refl

pub line-again : (number place : ℕ) → filled (refusal_line number place) ≡ refusal_line 9 0
line-again number place =
    filled-unread (refusal_line number place) no_sheet WrongSettingsCount
    (sym (settings-wrong (refusal_line number place) (omega (arith, line-long number place)) (other-count number place)))
