-- 3, 4 and 5.
use Rattle.splitting.specs.Who.{grounds}
use Rattle.planning.proofs.Composing.{given_here, not_here, none_given}
use Rattle.planning.proofs.Grounds.{used-read, completed-read, nothing_read}
use borrow.Author.Rules.{rules}
use Rattle.planning.proofs.check_poll.Goals as goal

pub returns-then-not-r : goal.returns-then-not-r
unfolding grounds
returns-then-not-r c = search (given_here, used-read, rules)

pub returns-then-r : goal.returns-then-r
unfolding grounds
returns-then-r c = search (not_here, given_here, used-read, completed-read, rules)

pub returns-then-polls_nothing : goal.returns-then-polls_nothing
unfolding grounds
returns-then-polls_nothing c = search (not_here, given_here, used-read, completed-read, nothing_read, rules)

pub returns : goal.returns
unfolding grounds
returns c = search (not_here, none_given, used-read, completed-read, nothing_read, rules)
