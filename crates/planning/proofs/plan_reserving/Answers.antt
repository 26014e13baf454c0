-- In the lowest free slot.
use Rattle.planning.proofs.Planning.{reserving-planned}
use borrow.Author.Rules.{rules}
use Rattle.planning.proofs.plan_reserving.Goals as goal

pub returns : goal.returns
returns c = search (reserving-planned, rules)
