-- An import by value, whose rows are then handed over to lent records: what it tells of the table, it tells of the records.
-- Assumes nothing.
use Rattle.ground.proofs.Kit.{ℕ, ◌≤◌, List, ◌≡◌, sym, ◌∙◌, ap, arith, length}
use Rattle.ground.specs.Laid.{over}
use Rattle.kinds.specs.declared.Task.{Task}
use Rattle.kinds.specs.declared.Table.{Table}
use Rattle.kinds.specs.Limits.{most_tasks}
use Rattle.kinds.specs.Task.{at}
use Rattle.lent_rows.proofs.Filling.{table-over}
use Rattle.office.proofs.Landing.{landing, lands}
use Rattle.c_texts.specs.declared.ToldImport.{ToldImport}
use Rattle.c_texts.specs.Texts.{ToldImports, ToldReads}

module _ (text : List ℕ) (old : List Task) (r : ToldImport) (reads : ToldReads text (length old) r) where
  count-is : r.table.n ≡ length (landing text (length old))
  count-is = ap (λ (t : Table). t.n) reads.table

  -- the table's rows find room
  pub room-enough : (r.table.n ≤ most_tasks) × (r.table.n ≤ length old)
  room-enough =
      let c = count-is in
      let l = lands text (length old) in
      (omega (arith, l.few), omega (arith, l.fits))

  pub told-imports : (new : List Task) → new ≡ over old (at r.table.rows) r.table.n → ToldImports text old r.told new
  told-imports new e =
      let l = lands text (length old) in
      record {
        answers = reads.answers;
        leaves =
            e
            ∙ (ap (λ (t : Table). over old (at t.rows) t.n) reads.table
            ∙ (table-over (landing text (length old)) old l.few l.fits ∙ sym (l.output old)));
      }
