-- The longest sheet's bytes and one more settle the reading of an input: `front_reads`. Beyond them nothing changes the reader's answer.
-- Assumes nothing.
use Rattle.ground.proofs.Kit.{ℕ, ◌+◌, ◌≤◌, ◌<◌, true, List, ◌++◌, ◌≡◌, sym, ◌∙◌, ap, arith, length, take, drop, length-append, take-append-drop}
use Rattle.ground.proofs.Kit.{length-take-le}
use lib.Seq.{take_all}
use Rattle.ground.proofs.Cases.{by_bool, by_le}
use Rattle.kinds.specs.declared.Refusal.TheVariants.{TooManyTasks, WrongResultCount, BytesAfterLast}
use Rattle.kinds.specs.Limits.{most_settings, most_tasks}
use Rattle.kinds.specs.Answer.{refused}
use Rattle.sheet.specs.Sections.{tasks_place, results_place, longest_sheet, settings_fit, results_fit}
use Rattle.sheet.specs.Reading.{no_sheet, settings_count, task_count, result_count, end_of, read_rows, read_sheet}
use Rattle.sheet.proofs.Stages.{settings-few, fits-few, settings-wrong, too_many, head-whole, count-wrong, bytes_after}
use Rattle.sheet.proofs.Counts as counts

module _ (s t : List ℕ) (long : longest_sheet < length s) where
  more : length (s ++ t) ≡ length s + length t
  more = length-append s t

  same-settings : settings_count (s ++ t) ≡ settings_count s
  same-settings = counts.same-settings s t (omega arith)

  same_taken : settings_fit (settings_count (s ++ t)) ≡ settings_fit (settings_count s)
  same_taken = ap settings_fit same-settings

  module _ (taken : settings_fit (settings_count s) ≡ true) where
    few-settings : settings_count s ≤ most_settings
    few-settings = settings-few (settings_count s) taken

    same-tasks : task_count (s ++ t) ≡ task_count s
    same-tasks = let few = few-settings in counts.same-tasks s t (omega arith)

    same_rows : task_count s ≤ most_tasks → read_rows (s ++ t) ≡ read_rows s
    same_rows few =
        let m = more in
        let c = same-settings in
        let h = few-settings in
        let n = same-tasks in
        let r = counts.same-results s t (omega arith) in
        let fit : results_fit (result_count (s ++ t)) (task_count (s ++ t)) ≡ results_fit (result_count s) (task_count s) = rw (r, n) in
        by_bool (results_fit (result_count s) (task_count s))
        (λ f.
        let less = fits-few (result_count s) (task_count s) f in
        let end : end_of (s ++ t) ≡ end_of s = omega arith in
        sym (bytes_after (s ++ t) (omega arith) (fit ∙ f) (omega arith))
        ∙ (ap (λ (k : ℕ). refused no_sheet (BytesAfterLast k)) end ∙ bytes_after s (omega arith) f (omega arith)))
        (λ f.
        let place : results_place (settings_count (s ++ t)) (task_count (s ++ t)) ≡ results_place (settings_count s) (task_count s) = omega arith in
        sym (count-wrong (s ++ t) (omega arith) (fit ∙ f))
        ∙ (ap (λ (k : ℕ). refused no_sheet (WrongResultCount k)) place ∙ count-wrong s (omega arith) f))

    same-sheet : read_sheet (s ++ t) ≡ read_sheet s
    same-sheet =
        let m = more in
        let c = same-settings in
        let h = few-settings in
        let n = same-tasks in
        by_le (task_count s) most_tasks
        (λ few.
        head-whole (s ++ t) (omega arith) (same_taken ∙ taken) (omega arith) (omega arith)
        ∙ (same_rows few ∙ sym (head-whole s (omega arith) taken (omega arith) few)))
        (λ many.
        sym (too_many (s ++ t) (omega arith) (same_taken ∙ taken) (omega arith) (omega arith))
        ∙ (ap (λ (k : ℕ). refused no_sheet (TooManyTasks (tasks_place k))) c ∙ too_many s (omega arith) taken (omega arith) many))

  -- what stands after more bytes than the longest sheet has changes nothing
  pub same-reading : read_sheet (s ++ t) ≡ read_sheet s
  same-reading =
      let m = more in
      by_bool (settings_fit (settings_count s)) same-sheet
      (λ e. sym (settings-wrong (s ++ t) (omega arith) (same_taken ∙ e)) ∙ settings-wrong s (omega arith) e)

-- a front of more bytes than the longest sheet has reads as the whole does
pub front-reading : (s : List ℕ) (k : ℕ) → longest_sheet < k → k ≤ length s → read_sheet (take k s) ≡ read_sheet s
front-reading s k h l =
    sym (same-reading (take k s) (drop k s) (rw (length-take-le k s l) h)) ∙ ap read_sheet (take-append-drop k s)

-- any input reads as the longest sheet's bytes and one more of it do
pub front_reads : (s : List ℕ) → read_sheet (take (longest_sheet + 1) s) ≡ read_sheet s
front_reads s =
    by_le (length s) (longest_sheet + 1)
    (λ h. ap read_sheet (take_all (longest_sheet + 1) s h))
    (λ h. front-reading s (longest_sheet + 1) (omega arith) (omega arith))
