-- A row a turn.
use Rattle.fresh.proofs.Rows.{Making}
use Rattle.fresh.proofs.start_clocks.Given as goal

abbrev pub invariant-loop-i : goal.invariant-loop-i
invariant-loop-i l = Making l.starts l.clocks l.n l.i
