-- Ticked, joined, set.
use Rattle.times.proofs.Clocks.{may_tick, set_both}
use borrow.Author.Rules.{rules}
use Rattle.times.proofs.put_ticked.Goals as goal

pub increment-ticked-requires : goal.increment-ticked-requires
increment-ticked-requires c = (search rules, search (may_tick, rules))

pub returns : goal.returns
returns c = search (set_both, rules)
