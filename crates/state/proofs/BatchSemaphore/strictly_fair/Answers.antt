-- By its fairness.
use borrow.Author.Rules.{rules}
use Rattle.splitting.specs.Split.{whole}
use Rattle.state.proofs.BatchSemaphore.strictly_fair.Goals as goal

pub returns : goal.returns
unfolding whole
returns c = search rules
