-- `printing::print_grants`: a dash, or the takers.
use borrow.Author.Rules.{rules}
use Rattle.printing.proofs.Takers.{room_dash, none_written, room_takers, some_written}
use Rattle.printing.proofs.print_grants.Goals as goal

pub put-requires : goal.put-requires
put-requires c = search (room_dash, rules)

pub returns-then-n-eq0 : goal.returns-then-n-eq0
returns-then-n-eq0 c = search (none_written, rules)

pub print_takers-requires : goal.print_takers-requires
print_takers-requires c = search (room_takers, rules)

pub returns : goal.returns
returns c = search (some_written, rules)
