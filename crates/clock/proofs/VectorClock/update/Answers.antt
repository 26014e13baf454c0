use borrow.Author.Rules.{rules}
use Rattle.clock.proofs.Joining.{joins_more, joins_whole}
use Rattle.clock.proofs.VectorClock.update.Goals as goal

pub loop-i-preserved : goal.loop-i-preserved
loop-i-preserved c = search (joins_more, rules)

pub returns : goal.returns
returns c = search (joins_whole, rules)
