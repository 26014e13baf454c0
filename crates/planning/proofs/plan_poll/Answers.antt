-- The request that was read is the one that is polled.
use Rattle.planning.proofs.Planning.{poll-planned}
use borrow.Author.Rules.{rules}
use Rattle.planning.proofs.plan_poll.Goals as goal

pub returns : goal.returns
returns c = search (poll-planned, rules)
