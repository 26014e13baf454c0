-- 10.
use Rattle.splitting.specs.Who.{grounds}
use borrow.Author.Rules.{rules}
use Rattle.planning.proofs.check_release.Goals as goal

pub returns-then-too_many : goal.returns-then-too_many
unfolding grounds
returns-then-too_many c = search rules

pub returns : goal.returns
unfolding grounds
returns c = search rules
