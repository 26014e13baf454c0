-- `printing::print_field`: the digits and the space.
use borrow.Author.Rules.{rules}
use Rattle.printing.proofs.Chain.{room-number, room-space, field_written}
use Rattle.printing.proofs.print_field.Goals as goal

pub print_number-p-requires : goal.print_number-p-requires
print_number-p-requires c = search (room-number, rules)

pub put-requires : goal.put-requires
put-requires c = search (room-space, rules)

pub returns : goal.returns
returns c = search (field_written, rules)
