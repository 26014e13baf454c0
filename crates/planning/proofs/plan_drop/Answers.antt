-- The request that was read is the one that is dropped.
use Rattle.planning.proofs.Planning.{drop-planned}
use borrow.Author.Rules.{rules}
use Rattle.planning.proofs.plan_drop.Goals as goal

pub returns : goal.returns
returns c = search (drop-planned, rules)
