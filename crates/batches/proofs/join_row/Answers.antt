-- The row is read, joined and written.
use borrow.Author.Rules.{rules}
use Rattle.batches.proofs.Joining.{joins_row}
use Rattle.batches.proofs.join_row.Goals as goal

pub returns : goal.returns
returns c = search (joins_row, rules)
