-- `printing::print_next`: a comma, then the taker.
use borrow.Author.Rules.{rules}
use Rattle.printing.proofs.Chain.{room-behind, next_written}
use Rattle.printing.proofs.print_next.Goals as goal

pub print_taker-requires : goal.print_taker-requires
print_taker-requires c = search (room-behind, rules)

pub returns : goal.returns
returns c = search (next_written, rules)
