-- Bytes at the front of a buffer, and the line of a refusal there.
-- Assumes nothing.
use Rattle.std.specs.Prelude.{ℕ, ◌≤◌, List, ◌≡◌, Result, Ok, Err, length, take, drop}
use Rattle.kinds.specs.declared.Refusal.{Refusal}
use Rattle.kinds.specs.Refusal.{number_of, place_of}
use Rattle.refusal_line.specs.Line.{refusal_line}

-- some bytes stand at the front of a buffer, k of them, and nothing past them was written
pub record Fronts (bytes old : List ℕ) (k : ℕ) (new : List ℕ) : Type 0 where
  pub written : take k new ≡ bytes
  pub kept : drop k new ≡ drop k old
  pub fits : k ≤ length new
  pub taken : k ≡ length (take k new)

-- a count stays, with the buffer as it is, and a refusal is written as its line
abbrev pub CountOrLine : Result ℕ Refusal → List ℕ → ℕ → List ℕ → Type 0
CountOrLine (Ok k) old r new = (r ≡ k) × (new ≡ old)
CountOrLine (Err refusal) old r new = Fronts (refusal_line (number_of refusal) (place_of refusal)) old r new

-- what a call writes that may refuse: its bytes stand at the front, or it has written nothing and they are the line of its refusal
abbrev pub FrontsOrRefuses : List ℕ → List ℕ → Result ℕ Refusal → List ℕ → Type 0
FrontsOrRefuses bytes old (Ok k) new = Fronts bytes old k new
FrontsOrRefuses bytes old (Err refusal) new = (bytes ≡ refusal_line (number_of refusal) (place_of refusal)) × (new ≡ old)
