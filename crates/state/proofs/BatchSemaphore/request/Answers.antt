-- What stands in the slot.
use borrow.Author.Rules.{rules}
use Rattle.state.proofs.Viewing.{request-read}
use Rattle.state.proofs.BatchSemaphore.request.Goals as goal

pub returns : goal.returns
returns c = search (request-read, rules)
