-- In the lowest free slot.
use Rattle.planning.proofs.Planning.{plain-planned}
use borrow.Author.Rules.{rules}
use Rattle.planning.proofs.plan_plain.Goals as goal

pub returns : goal.returns
returns c = search (plain-planned, rules)
