-- `reading::sum`: what is added so far with the lengths that are left is the whole sum.
use Prim.Native.Nat.{◌≤◌, ◌+◌, ◌*◌}
use mathlib.Core.Path.{◌≡◌}
use lib.ListN.{take, drop}
use Rattle.bundle.specs.Contents.{sum_of}
use Rattle.bundle.proofs.reading.sum.Given as goal

abbrev pub invariant-loop-size : goal.invariant-loop-size
invariant-loop-size l =
    (l.total ≤ 4294967296 * l.size-index) × (l.total + sum_of (drop l.size-index (take l.n l.lengths)) ≡ sum_of (take l.n l.lengths))
