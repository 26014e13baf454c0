-- `printing::line_room`: the answer, three numbers, and the takers.
use borrow.Author.Rules.{rules}
use Rattle.printing.proofs.Rooms.{line-fits}
use Rattle.printing.proofs.line_room.Goals as goal

pub returns : goal.returns
returns c = search (line-fits, rules)
