-- A program's whole run.
-- Assumes nothing.
use Rattle.std.specs.Prelude.{◌≡◌, ◌≤◌, ◌<◌, ℕ, List, Option, length, take}
use Rattle.std.specs.Borrow.{Bor, MutBor}
use Rattle.std.specs.Io.KnownBytes.{Consumes, Appends, IsAtEnd}

-- a step took what a stream gave, as much as there was room for or all of it, and another stream got as many bytes as it answered, of those that it left
pub record Ran {O : Type 0} (items : O → List ℕ) (step : Bor (List ℕ) → MutBor O → ℕ → MutBor O → Type 0) (room : ℕ) (out : O)
    (from rest before after : Option (List ℕ)) : Type 0 where
  pub given : Bor (List ℕ)
  pub lent : MutBor O
  pub count : ℕ
  pub left : MutBor O
  pub fits : length given.now ≤ room
  pub read : Consumes from rest given.now
  pub end : length given.now < room → IsAtEnd rest
  pub buffer : lent.now ≡ out
  pub took : step given lent count left
  pub wrote : Appends before after (take count (items left.now))
