-- `names::well_named`: the names that are left are well made where all are.
use Prim.Native.Nat.{◌-◌, ◌*◌}
use mathlib.Core.Path.{◌≡◌}
use lib.ListN.{drop}
use Rattle.bundle_rules.specs.Bundled.{well_named}
use Rattle.bundle.specs.Contents.{stretches}
use Rattle.bundle.proofs.names.well_named.Given as goal

abbrev pub invariant-loop-i : goal.invariant-loop-i
invariant-loop-i l =
    well_named (stretches 16 l.n l.names) ≡ well_named (stretches 16 (l.n - l.i) (drop (16 * l.i) l.names))
