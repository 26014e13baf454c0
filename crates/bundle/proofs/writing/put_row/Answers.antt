-- `bundle::put_row`: name, offset and length, one behind the other.
use borrow.Author.Rules.{rules}
use Rattle.bundle.proofs.Putting.{room-size, row_put}
use Rattle.bundle.proofs.writing.put_row.Goals as goal

pub put_number-requires : goal.put_number-requires
put_number-requires c = search (room-size, rules)

pub returns : goal.returns
returns c = search (row_put, rules)
