-- Nothing is granted on the way.
use Rattle.doing.proofs.Released.{ungranted_any}
use borrow.Author.Rules.{rules}
use Rattle.doing.proofs.unreserve.Goals as goal

pub returns : goal.returns
returns c = search (ungranted_any, rules)
