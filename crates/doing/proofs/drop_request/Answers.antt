-- What was decided; then the slot is free.
use Rattle.doing.proofs.Released.{dropped}
use borrow.Author.Rules.{rules}
use Rattle.doing.proofs.drop_request.Goals as goal

pub returns : goal.returns
returns c = search (dropped, rules)
