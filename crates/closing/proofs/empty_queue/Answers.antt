use borrow.Author.Rules.{rules}
use Rattle.closing.proofs.Emptying.{emptying, emptying_on, emptied}
use Rattle.closing.proofs.empty_queue.Goals as goal

pub loop-x-init : goal.loop-x-init
loop-x-init c = search (emptying, rules)

pub loop-x-preserved : goal.loop-x-preserved
loop-x-preserved c = search (emptying_on, rules)

pub returns : goal.returns
returns c = search (emptied, rules)
