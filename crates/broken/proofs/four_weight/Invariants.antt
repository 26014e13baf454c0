use Prim.Native.Nat.{◌+◌, ◌*◌, ◌-◌, ◌≤◌}
use mathlib.Core.Path.{◌≡◌}
use Rattle.broken.specs.Weights.{weights, sum_from, heaviest}
use Rattle.broken.proofs.four_weight.Given as goal

abbrev pub invariant-loop-j : goal.invariant-loop-j
invariant-loop-j l =
    (l.sum ≤ l.j * heaviest) × (l.sum + sum_from (weights l.tasks l.fair l.seen l.slots) (4 - l.j) (l.k + l.j) ≡ sum_from (weights l.tasks l.fair l.seen l.slots) 4 l.k)
