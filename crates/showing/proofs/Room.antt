-- Room for a number and for a line in what is left of a buffer.
use Prim.Native.Nat.{ℕ, ◌+◌, ◌-◌, ◌≤◌, ◌<◌}
use mathlib.Core.Path.{◌≡◌}
use mathlib.Core.List.{List}
use native.Mathlib.Omega.{arith}
use lib.ListN.{length}
use Rattle.rules.specs.Steps.{Answer}
use Rattle.rules.specs.Text.{digits}
use Rattle.rules.proofs.Decimal.{digits-length}
use Rattle.words.specs.View.{grants_of}
use Rattle.printing.specs.declared.Counts.{Counts}
use Rattle.printing.specs.Printed.{line_text}
use Rattle.printing.proofs.Rooms.{line_some}

pub room-left : (old : List ℕ) (at n r : ℕ) → n < 4294967296 → r ≡ length old - at → 11 ≤ r → at + length (digits n) ≤ length old
room-left old at n r h e room = omega (arith, digits-length n 9 (omega arith))

pub line-left : (old : List ℕ) (at : ℕ) (a : Answer) (c : Counts) (n : ℕ) (w : List ℕ) (l r : ℕ) → r ≡ length old - at → l ≤ r
    → ((v : List ℕ) → length (line_text a c (grants_of n v)) ≤ l) → at + length (line_text a c (grants_of n w)) ≤ length old
line-left old at a c n w l r e k f = omega (arith, f w, line_some a c (grants_of n w))
