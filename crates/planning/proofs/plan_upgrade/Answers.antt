-- In the lowest free slot, for the difference.
use Rattle.planning.proofs.Planning.{upgrade_planned}
use borrow.Author.Rules.{rules}
use Rattle.planning.proofs.plan_upgrade.Goals as goal

pub returns : goal.returns
returns c = search (upgrade_planned, rules)
