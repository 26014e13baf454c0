-- `texts::put_row`: the name, both numbers, a line feed.
use borrow.Author.Rules.{rules}
use Rattle.bundle_jobs.proofs.Pieces.{row-name, row-offset, row-size, row-end, row_put}
use Rattle.bundle_jobs.proofs.texts.put_row.Goals as goal

pub put_name-p-requires : goal.put_name-p-requires
put_name-p-requires c = search (row-name, rules)

pub put_field-q-requires : goal.put_field-q-requires
put_field-q-requires c = search (row-offset, rules)

pub put_field-t-requires : goal.put_field-t-requires
put_field-t-requires c = search (row-size, rules)

pub put-requires : goal.put-requires
put-requires c = search (row-end, rules)

pub returns : goal.returns
returns c = search (row_put, rules)
