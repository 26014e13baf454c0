-- Taken and woken, then marked and granted.
use Rattle.doing.proofs.Polls.{reserved_taken}
use borrow.Author.Rules.{rules}
use Rattle.doing.proofs.take_reserved.Goals as goal

pub returns : goal.returns
returns c = search (reserved_taken, rules)
