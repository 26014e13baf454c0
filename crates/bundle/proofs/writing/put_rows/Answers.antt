use Rattle.bundle.proofs.Putting.{next_fits, rows_go_on, rows_end}
use borrow.Author.Rules.{rules}
use Rattle.bundle.proofs.writing.put_rows.Goals as goal

pub overflow_add-offset-in-loop-i : goal.overflow_add-offset-in-loop-i
overflow_add-offset-in-loop-i c = search (next_fits, rules)

pub loop-i-preserved : goal.loop-i-preserved
loop-i-preserved c = search (rows_go_on, rules)

pub returns : goal.returns
returns c = search (rows_end, rules)
