-- `printing::print_taker`: the slot, or `t`.
use borrow.Author.Rules.{rules}
use Rattle.printing.proofs.Chain.{room-slot-taker, slot_written, room_try, try_written}
use Rattle.printing.proofs.print_taker.Goals as goal

pub print_number-requires : goal.print_number-requires
print_number-requires c = search (room-slot-taker, rules)

pub returns-then-taker-lt-TRY : goal.returns-then-taker-lt-TRY
returns-then-taker-lt-TRY c = search (slot_written, rules)

pub put-requires : goal.put-requires
put-requires c = search (room_try, rules)

pub returns : goal.returns
returns c = search (try_written, rules)
