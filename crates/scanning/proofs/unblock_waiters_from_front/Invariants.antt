-- One law for each need. Four of them are past what `search` looks into, and have their facts named.
use Prim.Native.Nat.{◌-◌}
use lib.ListN.{length}
use Rattle.queue.specs.View.{waiters_of}
use Rattle.scanning.proofs.Scanning.{Scanning}
use Rattle.scanning.proofs.unblock_waiters_from_front.Given as goal

abbrev pub invariant-loop-i : goal.invariant-loop-i
invariant-loop-i l = Scanning l.initial.now l.initial.slots l.initial.tasks l.now l.slots l.tasks l.grants l.count l.i

abbrev pub decreases-loop-i : goal.decreases-loop-i
decreases-loop-i l = length (waiters_of l.now.waiters) - l.i
