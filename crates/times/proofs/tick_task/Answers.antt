-- Read, ticked, set.
use borrow.Author.Rules.{rules}
use Rattle.times.proofs.Clocks.{may_tick, ticked_so}
use Rattle.times.proofs.tick_task.Goals as goal

pub increment-after-requires : goal.increment-after-requires
increment-after-requires c = (search rules, search (may_tick, rules))

pub returns : goal.returns
returns c = search (ticked_so, rules)
