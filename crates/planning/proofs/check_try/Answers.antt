-- 5.
use Rattle.splitting.specs.Who.{grounds}
use borrow.Author.Rules.{rules}
use Rattle.planning.proofs.check_try.Goals as goal

pub returns-then-n-eq0 : goal.returns-then-n-eq0
unfolding grounds
returns-then-n-eq0 c = search rules

pub returns : goal.returns
unfolding grounds
returns c = search rules
