-- A join, an entry a turn: after i turns the first i entries are those of the join, the others as in the first clock.
use mathlib.Core.Path.{◌≡◌}
use Rattle.rules.specs.Clock.{join}
use Rattle.tables.proofs.Filling.{filled}
use Rattle.clock.proofs.VectorClock.update.Given as goal

abbrev pub invariant-loop-i : goal.invariant-loop-i
invariant-loop-i l = l.out.0 ≡ filled l.self.0 (join l.self.0 l.other.0) l.i
