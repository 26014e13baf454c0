-- By whether one was made.
use Rattle.closing.proofs.Closing.{none_made, dropped}
use borrow.Author.Rules.{rules}
use Rattle.closing.proofs.drop_reservation.Goals as goal

pub returns-in_default : goal.returns-in_default
returns-in_default c = search (none_made, rules)

pub returns : goal.returns
returns c = search (dropped, rules)
