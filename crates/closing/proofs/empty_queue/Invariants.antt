-- A slot a turn.
use Rattle.closing.proofs.Emptying.{Emptying}
use Rattle.closing.proofs.empty_queue.Given as goal

abbrev pub invariant-loop-x : goal.invariant-loop-x
invariant-loop-x l = Emptying l.fn.h l.initial.slots l.initial.tasks l.x-items l.slots l.tasks l.x-index
