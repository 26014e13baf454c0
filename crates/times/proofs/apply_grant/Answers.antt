-- The request's clock, a meal, and the task's join.
use borrow.Author.Rules.{rules}
use Rattle.times.proofs.Applied.{passed, granted}
use Rattle.times.proofs.apply_grant.Goals as goal

pub returns-then-g-ge256 : goal.returns-then-g-ge256
returns-then-g-ge256 c = search (passed, rules)

pub join_task-requires : goal.join_task-requires
join_task-requires c = c.requires.4

pub returns : goal.returns
returns c = search (granted, rules)
