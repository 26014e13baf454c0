-- Closed, reserved, too few, then who may pass.
use native.Mathlib.Omega.{arith}
use Rattle.std.proofs.lemmas.Grind.{common_steps}
use Rattle.splitting.specs.Who.{direct}
use Rattle.queue.specs.View.{waiters_of}
use Rattle.head.specs.View.{plain_of}
use Rattle.choosing.proofs.Looking.{every_of}
use Rattle.choosing.proofs.direct.Goals as goal

pub returns-then-h : goal.returns-then-h
unfolding direct
returns-then-h c = grind (arith, common_steps)

pub returns-then-may_pass : goal.returns-then-may_pass
unfolding direct
returns-then-may_pass c = λ ts. grind (arith, common_steps, every_of (waiters_of c.args.h.waiters) (plain_of c.args.h c.args.slots.now ts))

pub returns : goal.returns
unfolding direct
returns c = λ ts. grind (arith, common_steps, every_of (waiters_of c.args.h.waiters) (plain_of c.args.h c.args.slots.now ts))
