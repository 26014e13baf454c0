-- The queue woken, and no reservation.
use Rattle.rousing.proofs.Whole.{shows_cancelled}
use borrow.Author.Rules.{rules}
use Rattle.rousing.proofs.cancel_reservation.Goals as goal

pub returns : goal.returns
returns c = search (shows_cancelled, rules)
