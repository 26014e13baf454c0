-- `printing::number_room`: at most ten digits.
use borrow.Author.Rules.{rules}
use Rattle.printing.proofs.Rooms.{number_fits}
use Rattle.printing.proofs.number_room.Goals as goal

pub returns : goal.returns
returns c = search (number_fits, rules)
