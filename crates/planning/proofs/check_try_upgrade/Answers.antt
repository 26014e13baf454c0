-- 7.
use Rattle.splitting.specs.Who.{grounds}
use borrow.Author.Rules.{rules}
use Rattle.planning.proofs.check_try_upgrade.Goals as goal

pub returns-then-bad_upgrade : goal.returns-then-bad_upgrade
unfolding grounds
returns-then-bad_upgrade c = search rules

pub returns : goal.returns
unfolding grounds
returns c = search rules
