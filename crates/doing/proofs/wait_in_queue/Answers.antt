-- The queue, then the mark.
use Rattle.doing.proofs.Polls.{waits_so}
use borrow.Author.Rules.{rules}
use Rattle.doing.proofs.wait_in_queue.Goals as goal

pub returns : goal.returns
returns c = search (waits_so, rules)
