-- No second answer meets what an import by value tells: number, place and count, and the table.
-- Assumes nothing.
use Prim.Native.Nat.{ℕ}
use mathlib.Core.List.{List}
use mathlib.Core.Path.{◌≡◌, sym, ◌∙◌}
use Rattle.c_texts.specs.declared.ToldImport.{ToldImport}
use Rattle.c_texts.specs.Texts.{ToldReads}

pub told-read-one : (text : List ℕ) (room : ℕ) (r q : ToldImport) → ToldReads text room r → ToldReads text room q → r ≡ q
told-read-one text room r q a b =
    let e = a.answers ∙ sym b.answers in
    let t = a.table ∙ sym b.table in
    λ i. record { told = record { number = (e i).number; place = (e i).place; count = (e i).value }; table = t i }
