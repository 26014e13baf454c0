-- By whether it is strictly fair.
use Rattle.rousing.proofs.Whole.{shows_fair, shows_reblocked}
use borrow.Author.Rules.{rules}
use Rattle.rousing.proofs.reblock_if_unfair.Goals as goal

pub returns-then-strictly_fair : goal.returns-then-strictly_fair
returns-then-strictly_fair c = search (shows_fair, rules)

pub returns : goal.returns
returns c = search (shows_reblocked, rules)
