-- The front of a long input tells all: one byte past the longest text settles the reading of a text, and one past the longest sheet that of
-- a sheet.
-- Assumes nothing.
use Rattle.ground.proofs.Kit.{ℕ, Some, None, Ok, Err, zero, suc, ◌+◌, ◌-◌, ◌≤◌, ◌<◌, List, [], ◌∷◌, ◌++◌, append-nil, append_assoc, ◌≡◌, refl, sym, ◌∙◌, ap, ⊎_elim, arith}
use Rattle.ground.proofs.Kit.{length, take, drop, length-append, length-drop, take-append-drop, length-take-le}
use lib.Seq.{take_all, drop_at}
use Rattle.ground.proofs.Cases.{by_le}
use Rattle.kinds.specs.declared.Task.{Task}
use Rattle.kinds.specs.declared.Refusal.{Refusal}
use Rattle.kinds.specs.declared.Refusal.TheVariants.{TooManyTasks, BadLine}
use Rattle.kinds.specs.declared.Sheet.{Sheet}
use Rattle.kinds.specs.Limits.{most_tasks}
use Rattle.kinds.specs.Answer.{Handed}
use Rattle.sheet.specs.Sections.{longest_sheet}
use Rattle.sheet.proofs.Beyond.{front_reads}
use Rattle.office.specs.Text.{line_of, text_of, AllFit, longest_text}
use Rattle.office.specs.Reading.{Line, line_at, Reading, read_from, read_text}
use Rattle.office.specs.Carrying.{import_handed}
use Rattle.office.proofs.Lines.{from-many, from-bad, from_more}
use Rattle.office.proofs.LinesBack.{line-got, line-back, line-rest, line-starts, no_line}
use Rattle.office.proofs.RoundTrip.{import-refused}
use Rattle.office.proofs.Longest.{line-most, text-most, taken-most}
use Rattle.office.proofs.Texts.{text-empty, text-cons}
use Rattle.refusal_line.specs.Line.{or_line}
use Rattle.office_sheet.specs.Written.{entered_text, entered, taken_table, taken_out}

-- rows that stand at a place of a text are read, and the reading goes on after them
read_past : (s : List ℕ) (these : List Task) (more : ℕ) (rows : List Task) (at : ℕ) (rest : List ℕ)
    → length these ≤ more → AllFit these → drop at s ≡ text_of these ++ rest
    → read_from more rows s at ≡ read_from (more - length these) (rows ++ these) s (at + length (text_of these))
read_past s [] more rows at rest h m e =
    let z : at ≡ at + length (text_of []) = (let l = ap length text-empty in omega arith) in
    let k : more ≡ more - 0 = omega arith in
    ap (λ (n : ℕ). read_from n rows s at) k
    ∙ (ap (λ (n : ℕ). read_from (more - 0) rows s n) z
    ∙ ap (λ (l : List Task). read_from (more - 0) l s (at + length (text_of []))) (sym (append-nil rows)))
read_past s (t ∷ these) zero rows at rest h m e = absurd (omega arith)
read_past s (t ∷ these) (suc more) rows at rest h m e =
    let d : drop at s ≡ line_of t ++ (text_of these ++ rest) =
    e ∙ (ap (λ (x : List ℕ). x ++ rest) (text-cons t these) ∙ append_assoc (line_of t) (text_of these) rest) in
    let z : at + length (line_of t) + length (text_of these) ≡ at + length (text_of (t ∷ these)) =
    (let l = ap length (text-cons t these) in let j = length-append (line_of t) (text_of these) in omega arith) in
    let k : suc more - length (t ∷ these) ≡ more - length these = omega arith in
    from_more rows s at more (line-starts s at t (text_of these ++ rest) m.0 d) t (at + length (line_of t)) (line-back s at t (text_of these ++ rest) m.0 d)
    ∙ (read_past s these more (rows ++ (t ∷ [])) (at + length (line_of t)) rest (omega arith) m.1 (line-rest s at t (text_of these ++ rest) m.0 d)
    ∙ (ap (λ (l : List Task). read_from (more - length these) l s (at + length (line_of t) + length (text_of these))) (append_assoc rows (t ∷ []) these)
    ∙ (ap (λ (n : ℕ). read_from (more - length these) (rows ++ (t ∷ these)) s n) z
    ∙ ap (λ (n : ℕ). read_from n (rows ++ (t ∷ these)) s (at + length (text_of (t ∷ these)))) (sym k))))

-- the front of a list that is no longer than another's front
same-front : {A : Type 0} (d q x y : List A) → d ++ q ≡ x ++ y → length x ≤ length d → d ≡ x ++ drop (length x) d
same-front d q [] y e h = refl
same-front [] q (b ∷ x) y e h = absurd (omega arith)
same-front {A} (a ∷ d) q (b ∷ x) y e h =
    let s : a ≡ b = cc in
    let t : d ++ q ≡ x ++ y = cc in
    rw s (ap (λ (l : List A). b ∷ l) (same-front d q x y t (omega arith)))

module _ (p q : List ℕ) (long : longest_text < length p) where
  -- where the front was refused, so is the whole
  module _ (r : Refusal) (before : List Task) (stop : ℕ) (text : p ≡ text_of before ++ drop stop p)
      (left : stop < length p) (fit : AllFit before) (few : length before ≤ most_tasks) where
    abbrev place : ℕ
    place = 0 + length (text_of before)

    whole-text : p ++ q ≡ text_of before ++ (drop stop p ++ q)
    whole-text = ap (λ (l : List ℕ). l ++ q) text ∙ append_assoc (text_of before) (drop stop p) q

    from-there : read_text (p ++ q) ≡ read_from (most_tasks - length before) before (p ++ q) place
    unfolding read_text
    from-there = read_past (p ++ q) before most_tasks [] 0 (drop stop p ++ q) few fit whole-text

    lengths : (length p ≡ length (text_of before) + length (drop stop p)) × (length (p ++ q) ≡ length p + length q)
    lengths = (ap length text ∙ length-append (text_of before) (drop stop p), length-append p q)

    within : place < length (p ++ q)
    within = omega (arith, lengths.0, lengths.1, length-drop stop p)

    rest-is : drop place (p ++ q) ≡ drop stop p ++ q
    rest-is = ap (drop place) whole-text ∙ drop_at (text_of before) (drop stop p ++ q) place (omega arith)

    many : length before ≡ most_tasks → read_text (p ++ q) ≡ Err (TooManyTasks most_tasks)
    many e =
        let z : most_tasks - length before ≡ 0 = omega arith in
        from-there ∙ (ap (λ (k : ℕ). read_from k before (p ++ q) place) z ∙ from-many before (p ++ q) place within)

    still-bad : length before < most_tasks → line_at p stop ≡ None → (l : Line) → line_at (p ++ q) place ≡ l → line_at (p ++ q) place ≡ None
    still-bad less b None e = e
    still-bad less b (Some (t, next)) e =
        let g = line-got (p ++ q) place t next e in
        let m = text-most before fit in
        let w = line-most t g.fits in
        let d = same-front (drop stop p) q (line_of t) (drop next (p ++ q)) (sym rest-is ∙ g.text) (omega (arith, lengths.0)) in
        absurd (no_line p stop b t g.fits (drop (length (line_of t)) (drop stop p)) d)

    bad : length before < most_tasks → line_at p stop ≡ None → read_text (p ++ q) ≡ Err (BadLine (length before))
    bad less b =
        let z : most_tasks - length before ≡ suc (31 - length before) = omega arith in
        from-there
        ∙ (ap (λ (k : ℕ). read_from k before (p ++ q) place) z
        ∙ from-bad before (p ++ q) place (31 - length before) within (still-bad less b (line_at (p ++ q) place) refl))

  same-reading : (reading : Reading) → read_text p ≡ reading → read_text (p ++ q) ≡ reading
  same-reading (Ok rows) e = absurd (omega (arith, taken-most p rows e))
  same-reading (Err r) e =
      let s = import-refused p r e in
      ⊎_elim
      (λ w. many r s.before s.stop s.text s.left s.fit (omega (arith, w.1)) w.1 ∙ ap Err (sym w.0))
      (λ w. bad r s.before s.stop s.text s.left s.fit (omega (arith, w.1)) w.1 w.2
      ∙ (ap (λ (k : ℕ). Err (BadLine k)) (none (length s.before)) ∙ ap Err (sym w.0)))
      s.why
    where
      none : (k : ℕ) → k ≡ length {A = Task} [] + k
      none k = omega arith

-- the longest text's bytes and one more settle the reading of a text
pub front-text : (s : List ℕ) → read_text (take (longest_text + 1) s) ≡ read_text s
front-text s =
    by_le (length s) (longest_text + 1)
    (λ h. ap read_text (take_all (longest_text + 1) s h))
    (λ h.
    let l : length (take (longest_text + 1) s) ≡ longest_text + 1 = length-take-le (longest_text + 1) s (omega arith) in
    sym (same-reading (take (longest_text + 1) s) (drop (longest_text + 1) s) (omega arith) (read_text (take (longest_text + 1) s)) refl)
    ∙ ap read_text (take-append-drop (longest_text + 1) s))

-- so `from_office` reads no more
pub front-enters : (policy processors s : List ℕ) → entered policy processors (take (longest_text + 1) s) ≡ entered policy processors s
unfolding entered entered_text import_handed
front-enters policy processors s = rw (front-text s)

-- nor does `to_office` read more than one byte past the longest sheet
pub front-takes : (s : List ℕ) → taken_out (take (longest_sheet + 1) s) ≡ taken_out s
unfolding taken_out
front-takes s = ap (λ (r : Handed Sheet). or_line r (λ x. taken_table x.table)) (front_reads s)
