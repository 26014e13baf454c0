-- `showing::put_digits`: eleven bytes are room for any number.
use Rattle.showing.proofs.Room.{room-left}
use borrow.Author.Rules.{rules}
use Rattle.showing.proofs.put_digits.Goals as goal

pub print_number-requires : goal.print_number-requires
print_number-requires c = search (room-left, rules)
