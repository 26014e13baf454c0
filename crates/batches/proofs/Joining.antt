-- A clock in a row, joined with another.
use Prim.Native.Nat.{ℕ, ◌+◌, ◌*◌, ◌≤◌}
use native.Mathlib.Omega.{arith}
use mathlib.Core.Path.{◌≡◌, ◌∙◌}
use mathlib.Core.List.{List}
use lib.ListN.{length}
use lib.Seq.{paste}
use Rattle.rules.specs.Clock.{join}
use Rattle.rules.proofs.Clocks.{length-join}
use Rattle.tables.specs.Table.{row}
use Rattle.tables.proofs.Rows.{row-length, row_same}
use Rattle.clock.specs.declared.VectorClock.{VectorClock}

-- a row read, joined and written back
pub joins_row : (w p : ℕ) (xs out : List ℕ) (before after c : VectorClock) → before.0 ≡ row w xs p → after.0 ≡ join before.0 c.0 → out ≡ paste xs (p * w) after.0 w → out ≡ paste xs (p * w) (join (row w xs p) c.0) w
joins_row w p xs out before after c r j e = rw (← r, ← j) e

-- the clock of the last taking, joined
pub joins_last : (w : ℕ) (last out c : List ℕ) → length last ≡ w → out ≡ paste last (0 * w) (join (row w last 0) c) w → row w out 0 ≡ join (row w last 0) c
joins_last w last out c sized e =
    let inside : 0 * w + w ≤ length last = omega arith in
    let wide : length (join (row w last 0) c) ≡ w = length-join (row w last 0) c ∙ row-length w last 0 inside in
    rw e (row_same w 1 last 0 (join (row w last 0) c) (omega arith) (omega arith) wide)
