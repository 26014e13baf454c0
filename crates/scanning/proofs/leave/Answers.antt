-- The mark and the queue, put together.
use Rattle.scanning.proofs.Stored.{left_so}
use borrow.Author.Rules.{rules}
use Rattle.scanning.proofs.leave.Goals as goal

pub returns : goal.returns
returns c = search (left_so, rules)
