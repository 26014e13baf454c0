-- `names::last_part`: the last part of what is left is that of the path.
use Prim.Native.Nat.{◌≤◌, ◌-◌}
use mathlib.Core.Path.{◌≡◌}
use lib.ListN.{length, drop}
use Rattle.text.specs.Reading.{Found}
use Rattle.bundle_jobs.specs.Named.{last_part}
use Rattle.bundle_jobs.proofs.names.last_part.Given as goal

abbrev pub invariant-loop-e : goal.invariant-loop-e
invariant-loop-e l =
    (l.at ≤ length l.path) × Found l.path l.at 47 l.e × (last_part (drop l.at l.path) ≡ last_part l.path)

abbrev pub decreases-loop-e : goal.decreases-loop-e
decreases-loop-e l = length l.path - l.at
