-- By whether a reservation was made, and whether its task is finished.
use Rattle.rousing.proofs.Whole.{shows_unreserved, shows_past, shows-held}
use borrow.Author.Rules.{rules}
use Rattle.rousing.proofs.wake_unfair_waiters.Goals as goal

pub returns-in_default : goal.returns-in_default
returns-in_default c = search (shows_unreserved, rules)

pub returns-then-finished : goal.returns-then-finished
returns-then-finished c = search (shows_past, rules)

pub returns : goal.returns
returns c = search (shows-held, rules)
