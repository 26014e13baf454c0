use Prim.Native.Nat.{◌+◌, ◌*◌, ◌-◌, ◌≤◌}
use mathlib.Core.Path.{◌≡◌}
use Rattle.rules.specs.Sizes.{slot_count}
use Rattle.broken.specs.Weights.{weights, sum_from, heaviest}
use Rattle.broken.proofs.slots_weight.Given as goal

abbrev pub invariant-loop-i : goal.invariant-loop-i
invariant-loop-i l =
    (l.sum ≤ 4 * l.i * heaviest) × (l.sum + sum_from (weights l.tasks l.fair l.seen l.slots) (32 - 4 * l.i) (4 * l.i) ≡ sum_from (weights l.tasks l.fair l.seen l.slots) slot_count 0)
