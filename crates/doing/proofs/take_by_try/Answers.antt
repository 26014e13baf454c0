-- Taken and reblocked; and the grant.
use Rattle.doing.proofs.Decided.{tries_taking}
use borrow.Author.Rules.{rules}
use Rattle.doing.proofs.take_by_try.Goals as goal

pub returns : goal.returns
returns c = search (tries_taking, rules)
