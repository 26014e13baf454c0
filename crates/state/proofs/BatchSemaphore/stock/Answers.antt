-- The stock of the head.
use borrow.Author.Rules.{rules}
use Rattle.splitting.specs.Split.{whole}
use Rattle.state.proofs.BatchSemaphore.stock.Goals as goal

pub returns : goal.returns
unfolding whole
returns c = search rules
