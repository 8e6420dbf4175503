-- `writer::storable` meets its contract. Assumes nothing.
use Rattle.writer.proofs.Elements.{numbers-storable, tasks-storable, results-storable}
use Rattle.writer.proofs.storable.Goals as goal

pub returns : goal.returns
returns c =
    let x = c.args.x in
    let sections = c.well_formed.0.1.1.1 in
    let tasks = sections.1.0.1.1.0 in
    let results = sections.1.1.0.1.1.0 in
    let numbers = c.from.type_inv in
    record {
      settings = λ i. rw c.from.ensures at (numbers-storable c.from.result numbers.0 numbers.1.1 i);
      tasks = tasks-storable x.table.rows tasks.0 tasks.1.1;
      tasks-room = tasks.1.0.1;
      results = results-storable x.results.rows results.0 results.1.1;
      results-room = results.1.0.1;
    }
