-- `spawning::spawn_children`: a child at a time.
use mathlib.Core.Path.{◌≡◌}
use Rattle.spawning.specs.Rows.{rows_after}
use Rattle.spawning.proofs.spawn_children.Given as goal

abbrev pub invariant-loop-k : goal.invariant-loop-k
invariant-loop-k l = l.starts ≡ rows_after l.n l.k
