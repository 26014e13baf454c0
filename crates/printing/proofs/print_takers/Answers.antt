-- `printing::print_takers`: the first taker, then the rest.
use borrow.Author.Rules.{rules}
use Rattle.printing.proofs.Takers.{room-taker, room-rest, takers_written}
use Rattle.printing.proofs.print_takers.Goals as goal

pub print_taker-p-requires : goal.print_taker-p-requires
print_taker-p-requires c = search (room-taker, rules)

pub print_rest-requires : goal.print_rest-requires
print_rest-requires c = search (room-rest, rules)

pub returns : goal.returns
returns c = search (takers_written, rules)
