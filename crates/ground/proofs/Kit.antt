-- The kit's names that proofs use, handed on in one place. Definitions name the kit's own modules.
-- Assumes nothing.
pub use Prim.Native.Nat.{ℕ, zero, suc, ◌+◌, ◌-◌, ◌*◌, ◌/◌, ◌%◌, ◌^◌, ◌≤◌, ◌<◌, max, min}
pub use mathlib.Core.Bool.{Bool, true, false, not}
pub use mathlib.Core.List.{List, [], ◌∷◌, ◌++◌, append-nil, append_assoc}
pub use mathlib.Core.Path.{◌≡◌, refl, sym, ◌∙◌, ap, ap₂, subst}
pub use Rattle.std.specs.Prelude.{Option, Some, None, Result, Ok, Err}
pub use mathlib.Core.Logic.{◌⊎◌, inl, inr, ⊎_elim}
pub use native.Mathlib.Nat.{le_trans, mul-le-mul, mul-le-mul_left, mul-le-mul_right}
pub use native.Mathlib.Numerals.{add-one}
pub use native.Mathlib.Omega.{arith}
pub use lib.Dec.{eqb, leb, ltb}
pub use lib.ListN.{length, get_or, set, take, drop, replicate, length-set, length-append, length-drop, length-replicate, get_or-replicate, take-append-drop}
pub use lib.Seq.{length-take-le, get_or-set_same, get_or-set_other}
pub use borrow.Author.Rules.{rules}
pub use borrow.Author.Tests.{eq-eqb, ne_eqb, eqb-true, le-leb, lt-leb, leb-true, leb-false, lt-ltb, le-ltb, ltb-true, ltb-false, not-true, not-false}
