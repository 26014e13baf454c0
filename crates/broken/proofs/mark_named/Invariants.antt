use lib.ListN.{take}
use Rattle.broken.specs.Weights.{Marks}
use Rattle.broken.proofs.mark_named.Given as goal

abbrev pub invariant-loop-x : goal.invariant-loop-x
invariant-loop-x l = Marks l.seen (take l.x-index l.x-items)
