-- The batches are added up, one a turn; an empty one ends it.
use Rattle.batches.proofs.Summing.{Summing}
use Rattle.batches.proofs.PermitClocks.adds_up.Given as goal

abbrev pub invariant-loop-i : goal.invariant-loop-i
invariant-loop-i l = Summing l.self l.sizes l.sum l.i
