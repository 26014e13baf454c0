-- 7, else always.
use Rattle.splitting.specs.Asking.{point, point_grounds}
use borrow.Author.Rules.{rules}
use Rattle.points.proofs.ask_try_upgrade.Goals as goal

pub returns-then-bad_upgrade : goal.returns-then-bad_upgrade
unfolding point_grounds
returns-then-bad_upgrade c = search rules

pub returns : goal.returns
unfolding point point_grounds
returns c = search rules
