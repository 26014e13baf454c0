use borrow.Author.Rules.{rules}
use Rattle.printing.proofs.Takers.{rest_starts, room_next, rest_goes_on, rest-ends}
use Rattle.printing.proofs.print_rest.Goals as goal

pub loop-i-init : goal.loop-i-init
loop-i-init c = search (rest_starts, rules)

pub print_next-p-requires : goal.print_next-p-requires
print_next-p-requires c = search (room_next, rules)

pub loop-i-preserved : goal.loop-i-preserved
loop-i-preserved c = search (rest_goes_on, rules)

pub returns : goal.returns
returns c = search (rest-ends, rules)
