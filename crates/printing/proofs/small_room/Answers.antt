-- `printing::small_room`: at most three digits.
use borrow.Author.Rules.{rules}
use Rattle.printing.proofs.Rooms.{small_fits}
use Rattle.printing.proofs.small_room.Goals as goal

pub returns : goal.returns
returns c = search (small_fits, rules)
