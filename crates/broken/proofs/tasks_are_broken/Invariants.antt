use mathlib.Core.Path.{◌≡◌}
use mathlib.Core.Bool.{◌||◌}
use lib.Dec.{ltb}
use Rattle.broken.specs.Broken.{stray_tasks}
use Rattle.broken.proofs.tasks_are_broken.Given as goal

abbrev pub invariant-loop-t : goal.invariant-loop-t
invariant-loop-t l = stray_tasks l.t l.tasks ≡ ltb 3 l.states || ltb 1 l.marks
