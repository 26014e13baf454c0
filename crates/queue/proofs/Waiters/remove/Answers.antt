-- By whether it stands there.
use native.Mathlib.Omega.{arith}
use mathlib.Core.Path.{◌∙◌}
use mathlib.Core.Path.{sym}
use Rattle.queue.specs.View.{waiters_of}
use Rattle.queue.proofs.Lists.{removed, absent}
use Rattle.queue.proofs.Waiters.remove.Goals as goal

pub returns-in-Some : goal.returns-in-Some
returns-in-Some c =
    let h = c.remove_at.ensures in
    record { fits = h.fits; view = h.view ∙ (removed c.args.x (waiters_of c.args.self) c.in-Some.i (sym c.position.ensures ∙ c.in-Some.is)).1 }

pub returns-in-None : goal.returns-in-None
returns-in-None c = record { fits = omega arith; view = absent c.args.x (waiters_of c.args.self) (sym c.position.ensures ∙ c.in-None.is) }
