-- The marks, and the grant.
use Rattle.doing.proofs.Polls.{takes_so}
use borrow.Author.Rules.{rules}
use Rattle.doing.proofs.poll_granted.Goals as goal

pub returns : goal.returns
returns c = search (takes_so, rules)
