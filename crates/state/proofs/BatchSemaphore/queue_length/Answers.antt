-- The length of the head's queue.
use borrow.Author.Rules.{rules}
use Rattle.splitting.specs.Split.{whole}
use Rattle.state.proofs.BatchSemaphore.queue_length.Goals as goal

pub returns : goal.returns
unfolding whole
returns c = search rules
