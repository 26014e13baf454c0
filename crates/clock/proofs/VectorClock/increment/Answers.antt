-- A tick is one store.
use mathlib.Core.Path.{refl}
use Rattle.rules.specs.Clock.{tick}
use Rattle.clock.proofs.VectorClock.increment.Goals as goal

pub returns : goal.returns
unfolding tick
returns c = refl
