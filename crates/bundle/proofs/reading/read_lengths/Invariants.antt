-- `reading::read_lengths`: the lengths that are there, with those of the rows that are left, are those of all rows.
use Prim.Native.Nat.{◌+◌, ◌-◌, ◌*◌}
use mathlib.Core.Path.{◌≡◌}
use mathlib.Core.List.{◌++◌}
use lib.ListN.{take, drop}
use Rattle.bundle_rules.specs.Reading.{rows_of, sizes_of}
use Rattle.bundle.proofs.reading.read_lengths.Given as goal

abbrev pub invariant-loop-i : goal.invariant-loop-i
invariant-loop-i l =
    take l.i l.lengths ++ sizes_of (rows_of (l.n - l.i) (drop (4 + 24 * l.i) l.s)) ≡ sizes_of (rows_of l.n (drop 4 l.s))
