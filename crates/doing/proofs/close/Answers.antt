-- Nothing is granted on the way.
use Rattle.doing.proofs.Released.{done_any}
use borrow.Author.Rules.{rules}
use Rattle.doing.proofs.close.Goals as goal

pub returns : goal.returns
returns c = search (done_any, rules)
