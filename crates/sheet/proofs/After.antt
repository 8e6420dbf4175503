-- Bytes after a sheet are refused by 11 at the first of them. Document 01, "Program", of more bytes than the longest sheet has: "refused as
-- 11 at" that length "if the first .. read as a sheet of that length".
-- Assumes nothing.
use Rattle.ground.proofs.Kit.{ℕ, ◌<◌, true, List, ◌++◌, ◌≡◌, sym, ◌∙◌, ap, arith, length, take, drop, length-append, length-drop, take-append-drop}
use Rattle.ground.proofs.Kit.{length-take-le}
use Rattle.kinds.specs.declared.Sheet.{Sheet}
use Rattle.kinds.specs.declared.Refusal.TheVariants.{BytesAfterLast}
use Rattle.kinds.specs.Answer.{accepted, refused}
use Rattle.sheet.specs.Sections.{settings_fit, results_fit}
use Rattle.sheet.specs.Reading.{no_sheet, settings_count, task_count, result_count, end_of, read_sheet}
use Rattle.sheet.proofs.Stages.{head-whole, bytes_after}
use Rattle.sheet.proofs.Whole.{Whole, whole}
use Rattle.sheet.proofs.Counts.{same-settings, same-tasks, same-results}

pub more-refused : (s t : List ℕ) → Whole s → 0 < length t → read_sheet (s ++ t) ≡ refused no_sheet (BytesAfterLast (length s))
more-refused s t w some =
    let e = w.end in
    let few = w.few in
    let l = length-append s t in
    let c = same-settings s t (omega arith) in
    let n = same-tasks s t (omega arith) in
    let r = same-results s t (omega arith) in
    let end : end_of (s ++ t) ≡ length s = omega arith in
    let settings : settings_fit (settings_count (s ++ t)) ≡ true = rw c w.settings in
    let fit : results_fit (result_count (s ++ t)) (task_count (s ++ t)) ≡ true = rw (r, n) w.fit in
    head-whole (s ++ t) (omega arith) settings (omega arith) (omega arith)
    ∙ (sym (bytes_after (s ++ t) (omega arith) fit (omega arith)) ∙ ap (λ (k : ℕ). refused no_sheet (BytesAfterLast k)) end)

-- the same of a longer input whose first k bytes are a sheet
pub front-refused : (s : List ℕ) (k : ℕ) (x : Sheet) → k < length s → read_sheet (take k s) ≡ accepted x → read_sheet s ≡ refused no_sheet (BytesAfterLast k)
front-refused s k x less e =
    let l : length (take k s) ≡ k = length-take-le k s (omega arith) in
    let some : 0 < length (drop k s) = simp length-drop (omega arith) in
    ap read_sheet (sym (take-append-drop k s))
    ∙ (more-refused (take k s) (drop k s) (whole (take k s) x e).0 some ∙ ap (λ (n : ℕ). refused no_sheet (BytesAfterLast n)) l)
