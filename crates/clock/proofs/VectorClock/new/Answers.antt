-- The empty clock is all zero.
use mathlib.Core.Path.{refl}
use Rattle.rules.specs.Clock.{empty}
use Rattle.clock.proofs.VectorClock.new.Goals as goal

pub returns : goal.returns
unfolding empty
returns c = refl
