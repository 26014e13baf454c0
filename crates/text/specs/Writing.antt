-- A lent buffer that is written on.
use Rattle.std.specs.Prelude.{ℕ, ◌+◌, ◌≡◌, List, ◌++◌, length, take, drop}

-- the buffer old, with bytes from a place on, is new; and r is the place after them
pub record Appended (old : List ℕ) (at : ℕ) (bytes new : List ℕ) (r : ℕ) : Type 0 where
  pub end : r ≡ at + length bytes
  pub whole : new ≡ take at old ++ (bytes ++ drop r old)
