-- `reading::in_order`: the rows that are left are in order from where the bodies so far end, where all are.
use Prim.Native.Nat.{◌≤◌, ◌+◌, ◌-◌, ◌*◌}
use mathlib.Core.Path.{◌≡◌}
use lib.ListN.{length, drop}
use Rattle.bundle_rules.specs.Reading.{rows_of, in_order}
use Rattle.bundle.proofs.reading.in_order.Given as goal

abbrev pub invariant-loop-i : goal.invariant-loop-i
invariant-loop-i l =
    (l.end ≤ 4 + 24 * l.n + 4294967296 * l.i) × (in_order l.end (rows_of (l.n - l.i) (drop (4 + 24 * l.i) l.s)) (length l.s) ≡ in_order (4 + 24 * l.n) (rows_of l.n (drop 4 l.s)) (length l.s))
