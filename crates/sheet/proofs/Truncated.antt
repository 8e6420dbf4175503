-- A sheet that is cut short anywhere is refused by 8 at the length that is left.
-- Assumes nothing.
use Rattle.ground.proofs.Kit.{ℕ, ◌<◌, true, List, ◌++◌, ◌≡◌, sym, ◌∙◌, ap, arith, length, take, drop, length-append, length-drop, take-append-drop}
use Rattle.ground.proofs.Kit.{length-take-le}
use Rattle.ground.proofs.Cases.{by_le}
use Rattle.kinds.specs.declared.Sheet.{Sheet}
use Rattle.kinds.specs.declared.Refusal.TheVariants.{SheetEnds}
use Rattle.kinds.specs.Answer.{accepted, refused}
use Rattle.sheet.specs.Sections.{numbers_place, records_place, granted_place, settings_fit, results_fit}
use Rattle.sheet.specs.Reading.{no_sheet, settings_count, task_count, result_count, read_rows, read_sheet}
use Rattle.sheet.proofs.Stages.{settings-missing, tasks-missing, head-whole, count-missing, results-missing}
use Rattle.sheet.proofs.Whole.{Whole, whole}
use Rattle.sheet.proofs.Counts.{same-settings, same-tasks, same-results}

-- the front of a sheet that has more
module _ (s t : List ℕ) (w : Whole (s ++ t)) (some : 0 < length t) where
  more : length s < length (s ++ t)
  more = let l = length-append s t in omega arith

  in_rows : settings_count (s ++ t) ≡ settings_count s → task_count (s ++ t) ≡ task_count s → read_rows s ≡ refused no_sheet (SheetEnds (length s))
  in_rows c n =
      let m = more in
      let e = w.end in
      by_le (granted_place (settings_count s) (task_count s)) (length s)
      (λ a.
      let r = same-results s t a in
      let fit : results_fit (result_count s) (task_count s) ≡ true = rw (r, n) at w.fit in
      sym (results-missing s a fit (omega arith)))
      (λ a. sym (count-missing s a))

  -- cut anywhere
  pub cut_short : read_sheet s ≡ refused no_sheet (SheetEnds (length s))
  cut_short =
      by_le numbers_place (length s)
      (λ a.
      let c = same-settings s t a in
      let settings : settings_fit (settings_count s) ≡ true = rw c at w.settings in
      by_le (records_place (settings_count s)) (length s)
      (λ b.
      let n = same-tasks s t b in
      let few = w.few in
      head-whole s a settings b (omega arith) ∙ in_rows c n)
      (λ b. sym (tasks-missing s a settings b)))
      (λ a. sym (settings-missing s a))

-- of any sheet that is accepted
pub truncated : (s : List ℕ) (x : Sheet) → read_sheet s ≡ accepted x → (k : ℕ) → k < length s → read_sheet (take k s) ≡ refused no_sheet (SheetEnds k)
truncated s x e k less =
    let long : length (take k s) ≡ k = length-take-le k s (omega arith) in
    let some : 0 < length (drop k s) = simp length-drop (omega arith) in
    let w : Whole (take k s ++ drop k s) = rw (take-append-drop k s) (whole s x e).0 in
    cut_short (take k s) (drop k s) w some ∙ ap (λ (n : ℕ). refused no_sheet (SheetEnds n)) long
