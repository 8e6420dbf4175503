-- What functions hand each other: a run of bytes stored in a lent buffer.
-- Assumes nothing.
use Rattle.std.specs.Prelude.{ℕ, ◌+◌, List, ◌≡◌, length}
use Rattle.std.proofs.lemmas.List.Edits.{sets}

-- the buffer with a run of bytes stored from a place on
unfoldable pub stored : List ℕ → ℕ → List ℕ → List ℕ
stored out at run = sets out at run

-- a run of so many bytes was stored from a place on, and nothing else; next is the place after it
pub record Put (old : List ℕ) (at size : ℕ) (run : List ℕ) (next : ℕ) (new : List ℕ) : Type 0 where
  pub next-is : next ≡ at + size
  pub run_long : length run ≡ size
  pub new_is : new ≡ stored old at run
