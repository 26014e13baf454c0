-- What is released comes back.
use Rattle.planning.proofs.Planning.{release-planned}
use borrow.Author.Rules.{rules}
use Rattle.planning.proofs.plan_release.Goals as goal

pub returns : goal.returns
returns c = search (release-planned, rules)
