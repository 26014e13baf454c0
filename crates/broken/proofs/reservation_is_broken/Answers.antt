-- `broken::reservation_is_broken`: none is not broken; one past the slots is, and else the request there decides.
use Rattle.broken.proofs.Deciding.{unreserved, reserved-beyond, reserved_judged}
use borrow.Author.Rules.{rules}
use Rattle.broken.proofs.reservation_is_broken.Goals as goal

pub returns-in-None : goal.returns-in-None
returns-in-None c = search (unreserved, rules)

pub returns-then-x-ge32 : goal.returns-then-x-ge32
returns-then-x-ge32 c = search (reserved-beyond, rules)

pub returns-else-x-ge32 : goal.returns-else-x-ge32
returns-else-x-ge32 c = search (reserved_judged, rules)
