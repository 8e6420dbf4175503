-- What rows leave where they are copied to the front: the rows laid over what stood there.
-- Assumes nothing.
use Rattle.ground.proofs.Kit.{ℕ, zero, suc, ◌≤◌, min, List, [], ◌∷◌, ◌++◌, ◌≡◌, refl, sym, ◌∙◌, ap, arith, length, take, drop, length-take-le}
use Rattle.std.proofs.lemmas.List.{get_or-take}
use Rattle.ground.specs.Folds.{list_to}
use Rattle.ground.specs.Laid.{laid, over}
use Rattle.ground.proofs.Buffer.{list-cong, list_all}
use Rattle.ground.proofs.Laid.{over-front}
use Rattle.kinds.specs.declared.Task.{Task}
use Rattle.kinds.specs.Limits.{most_tasks}
use Rattle.kinds.specs.Task.{at, no_task, table_of}
use Rattle.kinds.proofs.Records.{table_at}

-- as many as find a place
pub laid-filled : {A : Type 0} (xs rest : List A) (k : ℕ) → k ≡ min (length xs) (length rest) → take k xs ++ drop k rest ≡ laid xs rest
laid-filled [] rest zero e = refl
laid-filled [] rest (suc k) e = absurd (omega arith)
laid-filled (x ∷ xs) [] zero e = refl
laid-filled (x ∷ xs) [] (suc k) e = absurd (omega arith)
laid-filled (x ∷ xs) (y ∷ rest) zero e = absurd (omega arith)
laid-filled {A} (x ∷ xs) (y ∷ rest) (suc k) e = ap (λ (ys : List A). x ∷ ys) (laid-filled xs rest k (omega arith))

-- the first n of a table's rows
pub rows-over : (rows old : List Task) (n : ℕ) → n ≤ length rows → n ≤ length old → take n rows ++ drop n old ≡ over old (at rows) n
rows-over rows old n few fits =
    let long = length-take-le n rows few in
    let front : list_to (at (take n rows)) n ≡ take n rows = ap (list_to (at (take n rows))) (sym long) ∙ list_all no_task (take n rows) in
    let same : list_to (at rows) n ≡ list_to (at (take n rows)) n =
    list-cong (at rows) (at (take n rows)) n (λ i l. sym (get_or-take n rows i no_task l)) in
    sym (over-front old (at rows) n fits ∙ ap (λ (x : List Task). x ++ drop n old) (same ∙ front))

-- the list of a table, and then what stood there
pub table-over : (rows old : List Task) → length rows ≤ most_tasks → length rows ≤ length old
    → over old (at (table_of rows).rows) (length rows) ≡ rows ++ drop (length rows) old
table-over rows old few fits =
    over-front old (at (table_of rows).rows) (length rows) fits
    ∙ ap (λ (x : List Task). x ++ drop (length rows) old)
    (list-cong (at (table_of rows).rows) (at rows) (length rows) (λ i l. table_at rows few i) ∙ list_all no_task rows)
