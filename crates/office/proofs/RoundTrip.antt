-- Both round trips, over the definitions: the text of rows reads as them (`import-of-export`), and a text that reads as rows is their text
-- (`export-of-import`). A refused text has a first line that is bad, or bytes after line 31 (`import-refused`).
-- Assumes nothing.
use Rattle.ground.proofs.Kit.{ℕ, zero, suc, ◌+◌, ◌≤◌, ◌<◌, List, [], ◌∷◌, ◌++◌, append-nil, append_assoc, ◌≡◌, refl, sym, ◌∙◌, ap, ◌⊎◌, inl, inr, ⊎_elim, Some, None, Ok, Err}
use Rattle.ground.proofs.Kit.{arith, length, drop, length-append, length-drop}
use lib.ListN.{drop_of_length-le}
use Rattle.ground.proofs.Cases.{by_le}
use Rattle.kinds.specs.declared.Task.{Task}
use Rattle.kinds.specs.declared.Refusal.{Refusal}
use Rattle.kinds.specs.declared.Refusal.TheVariants.{TooManyTasks, BadLine}
use Rattle.kinds.specs.Limits.{most_tasks}
use Rattle.office.specs.Text.{line_of, text_of, AllFit}
use Rattle.office.specs.Reading.{Line, line_at, read_from, read_text}
use Rattle.office.proofs.Lines.{from_end, from-many, from-bad, from_more}
use Rattle.office.proofs.LinesBack.{line-got, line-back, line-rest, line-starts}
use Rattle.office.proofs.Texts.{text-empty, text-cons}

-- the rows read from a place on, and their text there
pub record Rest (more : ℕ) (rows : List Task) (s : List ℕ) (at : ℕ) (all : List Task) : Type 0 where
  pub these : List Task
  pub all-is : all ≡ rows ++ these
  pub text : drop at s ≡ text_of these
  pub few : length these ≤ more
  pub fit : AllFit these

module _ (s : List ℕ) (all : List Task) where
  rest-none : (more : ℕ) (rows : List Task) (at : ℕ) → length s ≤ at → read_from more rows s at ≡ Ok all → Rest more rows s at all
  rest-none more rows at h e =
      let w = from_end rows s at more h in
      let x : rows ≡ all = cc in
      record { these = []; all-is = sym x ∙ sym (append-nil rows); text = drop_of_length-le s h ∙ sym text-empty; few = omega arith; fit = tt }

  rest-line : (more : ℕ) (rows : List Task) (at : ℕ) → at < length s
      → ((rows' : List Task) (at' : ℕ) → read_from more rows' s at' ≡ Ok all → Rest more rows' s at' all)
      → read_from (suc more) rows s at ≡ Ok all → (l : Line) → line_at s at ≡ l → Rest (suc more) rows s at all
  rest-line more rows at h ih e None b =
      let w = from-bad rows s at more h b in absurd (let z : ◌≡◌ {A = ℕ} 0 1 = cc in omega arith)
  rest-line more rows at h ih e (Some (t, next)) b =
      let w = from_more rows s at more h t next b in
      let i = ih (rows ++ (t ∷ [])) next (sym w ∙ e) in
      let g = line-got s at t next b in
      record {
        these = t ∷ i.these;
        all-is = i.all-is ∙ append_assoc rows (t ∷ []) i.these;
        text = g.text ∙ (ap (λ (x : List ℕ). line_of t ++ x) i.text ∙ sym (text-cons t i.these));
        few = let f = i.few in omega arith;
        fit = (g.fits, i.fit);
      }

  pub from-got : (more : ℕ) (rows : List Task) (at : ℕ) → read_from more rows s at ≡ Ok all → Rest more rows s at all
  from-got zero rows at e =
      by_le (length s) at
      (λ h. rest-none 0 rows at h e)
      (λ h. let w = from-many rows s at h in absurd (let z : ◌≡◌ {A = ℕ} 0 1 = cc in omega arith))
  from-got (suc more) rows at e =
      let ih : (rows' : List Task) (at' : ℕ) → read_from more rows' s at' ≡ Ok all → Rest more rows' s at' all = λ rows' at'. from-got more rows' at' in
      by_le (length s) at
      (λ h. rest-none (suc more) rows at h e)
      (λ h. rest-line more rows at h ih e (line_at s at) refl)

-- the text of rows reads as them
pub from_back : (s : List ℕ) (these : List Task) (more : ℕ) (rows : List Task) (at : ℕ) → length these ≤ more → AllFit these → drop at s ≡ text_of these
    → read_from more rows s at ≡ Ok (rows ++ these)
from_back s [] more rows at h m e =
    let l = length-drop at s in
    let z = ap length (e ∙ text-empty) in
    from_end rows s at more (omega arith) ∙ ap Ok (sym (append-nil rows))
from_back s (t ∷ these) zero rows at h m e = absurd (omega arith)
from_back s (t ∷ these) (suc more) rows at h m e =
    let d = e ∙ text-cons t these in
    from_more rows s at more (line-starts s at t (text_of these) m.0 d) t (at + length (line_of t)) (line-back s at t (text_of these) m.0 d)
    ∙ (from_back s these more (rows ++ (t ∷ [])) (at + length (line_of t)) (omega arith) m.1 (line-rest s at t (text_of these) m.0 d)
    ∙ ap Ok (append_assoc rows (t ∷ []) these))

-- "Import after export gives the table back"
pub import-of-export : (rows : List Task) → length rows ≤ most_tasks → AllFit rows → read_text (text_of rows) ≡ Ok rows
unfolding read_text
import-of-export rows h m = from_back (text_of rows) rows most_tasks [] 0 h m refl

-- "and export after an accepted import gives the text back."
pub record TextBack (s : List ℕ) (rows : List Task) : Type 0 where
  pub text : text_of rows ≡ s
  pub few : length rows ≤ most_tasks
  pub fit : AllFit rows

pub export-of-import : (s : List ℕ) (rows : List Task) → read_text s ≡ Ok rows → TextBack s rows
unfolding read_text
export-of-import s rows e =
    let r = from-got s rows most_tasks [] 0 e in
    rw r.all-is (record { text = sym r.text; few = r.few; fit = r.fit })

-- two tables with one text are one table
pub text-one : (rows other : List Task) → length rows ≤ most_tasks → AllFit rows → length other ≤ most_tasks → AllFit other
    → text_of rows ≡ text_of other → rows ≡ other
text-one rows other a b c d e =
    let x = import-of-export rows a b in
    let y = import-of-export other c d in
    let z = ap read_text e in
    cc

-- ---- refusals
-- where an import stopped: good lines up to a place within the text, and there a bad line, or bytes after as many lines as may be
pub record Stopped (more : ℕ) (rows : List Task) (s : List ℕ) (at : ℕ) (refusal : Refusal) : Type 0 where
  pub before : List Task
  pub stop : ℕ
  pub text : drop at s ≡ text_of before ++ drop stop s
  pub left : stop < length s
  pub fit : AllFit before
  pub why : ((refusal ≡ TooManyTasks most_tasks) × (length before ≡ more))
      ⊎ ((refusal ≡ BadLine (length rows + length before)) × (length before < more) × (line_at s stop ≡ None))

module _ (s : List ℕ) (refusal : Refusal) where
  stop-here : (more : ℕ) (rows : List Task) (at : ℕ) → at < length s
      → ((refusal ≡ TooManyTasks most_tasks) × (0 ≡ more)) ⊎ ((refusal ≡ BadLine (length rows + 0)) × (0 < more) × (line_at s at ≡ None))
      → Stopped more rows s at refusal
  stop-here more rows at h w =
      record { before = []; stop = at; text = ap (λ (x : List ℕ). x ++ drop at s) (sym text-empty); left = h; fit = tt; why = w }

  ended : (more : ℕ) (rows : List Task) (at : ℕ) → length s ≤ at → read_from more rows s at ≡ Err refusal → Stopped more rows s at refusal
  ended more rows at h e = let w = from_end rows s at more h in absurd (let z : ◌≡◌ {A = ℕ} 0 1 = cc in omega arith)

  stop-line : (more : ℕ) (rows : List Task) (at : ℕ) → at < length s
      → ((rows' : List Task) (at' : ℕ) → read_from more rows' s at' ≡ Err refusal → Stopped more rows' s at' refusal)
      → read_from (suc more) rows s at ≡ Err refusal → (l : Line) → line_at s at ≡ l → Stopped (suc more) rows s at refusal
  stop-line more rows at h ih e None b =
      let w = from-bad rows s at more h b in
      let x : BadLine (length rows) ≡ refusal = cc in
      let n : length rows ≡ length rows + 0 = omega arith in
      stop-here (suc more) rows at h (inr (sym x ∙ ap BadLine n, omega arith, b))
  stop-line more rows at h ih e (Some (t, next)) b =
      let w = from_more rows s at more h t next b in
      let i = ih (rows ++ (t ∷ [])) next (sym w ∙ e) in
      let g = line-got s at t next b in
      let l = length-append rows (t ∷ []) in
      let n : length (rows ++ (t ∷ [])) + length i.before ≡ length rows + suc (length i.before) = omega arith in
      record {
        before = t ∷ i.before;
        stop = i.stop;
        text =
            g.text
            ∙ (ap (λ (x : List ℕ). line_of t ++ x) i.text
            ∙ (sym (append_assoc (line_of t) (text_of i.before) (drop i.stop s))
            ∙ ap (λ (x : List ℕ). x ++ drop i.stop s) (sym (text-cons t i.before))));
        left = i.left;
        fit = (g.fits, i.fit);
        why =
            ⊎_elim (λ q. inl (q.0, ap suc q.1))
            (λ q. inr (q.0 ∙ ap BadLine n, (let m = q.1 in omega arith), q.2)) i.why;
      }

  pub from-not : (more : ℕ) (rows : List Task) (at : ℕ) → read_from more rows s at ≡ Err refusal → Stopped more rows s at refusal
  from-not zero rows at e =
      by_le (length s) at
      (λ h. ended 0 rows at h e)
      (λ h.
      let w = from-many rows s at h in
      let x : TooManyTasks most_tasks ≡ refusal = cc in
      stop-here 0 rows at h (inl (sym x, refl)))
  from-not (suc more) rows at e =
      let ih : (rows' : List Task) (at' : ℕ) → read_from more rows' s at' ≡ Err refusal → Stopped more rows' s at' refusal =
      λ rows' at'. from-not more rows' at' in
      by_le (length s) at
      (λ h. ended (suc more) rows at h e)
      (λ h. stop-line more rows at h ih e (line_at s at) refl)

-- a refused text is refused by 3 at 32 after 32 good lines, or by 16 at its first bad line, which comes after fewer
pub import-refused : (s : List ℕ) (refusal : Refusal) → read_text s ≡ Err refusal → Stopped most_tasks [] s 0 refusal
unfolding read_text
import-refused s refusal e = from-not s refusal most_tasks [] 0 e
