-- A request that the queue names: holding and completed, by their bits together.
use Prim.Native.Nat.{ℕ}
use native.Mathlib.Omega.{arith}
use mathlib.Core.Path.{◌≡◌}
use mathlib.Core.Bool.{not, ◌||◌}
use borrow.Author.Tests.{eq-eqb, ne_eqb}
use lib.Bits.{bit_or, or_add_and, and_le_l, and_le_r}
use lib.Dec.{leb, eqb}
use Rattle.words.specs.View.{marked}

pub named_else : (n a q h d t : ℕ) → (a ≡ 0 → ⊥) → q ≡ 1 → bit_or h d ≡ 0 → leb n t ≡ eqb a 0 || not (eqb q 1) || marked h || marked d || leb n t
named_else n a q h d t ha hq e =
    rw (ne_eqb a 0 ha, eq-eqb q 1 hq, eq-eqb h 0 (omega (arith, or_add_and h d, and_le_r h d)), eq-eqb d 0 (omega (arith, or_add_and h d, and_le_l h d)))
