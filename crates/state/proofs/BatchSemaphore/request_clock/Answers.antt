-- In a free slot, the empty clock.
use borrow.Author.Rules.{rules}
use Rattle.state.proofs.Viewing.{maker-read, maker_none}
use Rattle.state.proofs.BatchSemaphore.request_clock.Goals as goal

pub returns-then-r : goal.returns-then-r
returns-then-r c = search (maker-read, rules)

pub returns : goal.returns
returns c = search (maker_none, rules)
