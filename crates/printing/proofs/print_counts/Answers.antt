-- `printing::print_counts`: four fields one behind the other.
use borrow.Author.Rules.{rules}
use Rattle.printing.proofs.Chain.{room-available, room-stock, room-closed, room-queued, counts_written}
use Rattle.printing.proofs.print_counts.Goals as goal

pub print_field-p-requires : goal.print_field-p-requires
print_field-p-requires c = search (room-available, rules)

pub print_field-q-requires : goal.print_field-q-requires
print_field-q-requires c = search (room-stock, rules)

pub print_field-r-requires : goal.print_field-r-requires
print_field-r-requires c = search (room-closed, rules)

pub print_field-requires : goal.print_field-requires
print_field-requires c = search (room-queued, rules)

pub returns : goal.returns
returns c = search (counts_written, rules)
