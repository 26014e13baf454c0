-- Only the marks change.
use Rattle.doing.proofs.Polls.{marked_so}
use borrow.Author.Rules.{rules}
use Rattle.doing.proofs.polled.Goals as goal

pub returns : goal.returns
returns c = search (marked_so, rules)
