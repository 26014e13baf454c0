-- `showing::put_line`: a line that fits what is left.
use borrow.Author.Rules.{rules}
use Rattle.showing.proofs.Room.{line-left}
use Rattle.showing.proofs.put_line.Goals as goal

pub print_line-requires : goal.print_line-requires
print_line-requires c = search (line-left, c.line_room.ensures, rules)
