-- 3, then what a release of the same count meets.
use Rattle.splitting.specs.Who.{grounds}
use Rattle.planning.proofs.Composing.{given_here, not_here}
use Rattle.planning.proofs.Grounds.{used-read, as_released}
use borrow.Author.Rules.{rules}
use Rattle.planning.proofs.check_drop.Goals as goal

pub returns-then-not-r : goal.returns-then-not-r
unfolding grounds
returns-then-not-r c = search (given_here, used-read, rules)

pub returns : goal.returns
unfolding grounds
returns c = search (not_here, used-read, as_released, rules)
