-- `text::number_at`: the field is followed by a space, or by nothing.
use borrow.Author.Rules.{rules}
use Rattle.text.proofs.Fields.{read_none, read_then, read-last}
use Rattle.text.proofs.number_at.Goals as goal

pub returns-in_err-n : goal.returns-in_err-n
returns-in_err-n c = search (read_none, rules)

pub returns-then-e-line : goal.returns-then-e-line
returns-then-e-line c = search (read_then, rules)

pub returns-else-e-line : goal.returns-else-e-line
returns-else-e-line c = search (read-last, rules)
