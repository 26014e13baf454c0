-- A request a turn.
use Rattle.rousing.proofs.Turns.{Along}
use Rattle.rousing.proofs.change_owners.Given as goal

abbrev pub invariant-loop-x : goal.invariant-loop-x
invariant-loop-x l = Along l.change l.slots l.x-items l.count l.initial.tasks l.x-index l.tasks
