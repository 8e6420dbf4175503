-- What the functions of this crate hand each other.
-- Assumes nothing.
use Rattle.std.specs.Prelude.{[], Result, Ok, Err}
use Rattle.kinds.specs.declared.Refusal.{Refusal}
use Rattle.kinds.specs.declared.Table.{Table}
use Rattle.kinds.specs.Task.{table_of}
use Rattle.office.specs.declared.Imported.{Imported}

-- a refused import by value
abbrev pub imported_not : Refusal → Imported
imported_not refusal = record { answer = Err refusal; table = table_of [] }

-- an import by value, from the table of a text or the refusal of it
abbrev pub imported : Result Table Refusal → Imported
imported (Ok table) = record { answer = Ok table.n; table = table }
imported (Err refusal) = imported_not refusal
