-- None while one has the reservation.
use borrow.Author.Rules.{rules}
use Rattle.state.proofs.Viewing.{available-read}
use Rattle.state.proofs.BatchSemaphore.available_permits.Goals as goal

pub returns : goal.returns
returns c = search (available-read, rules)
