-- `text::next_line`: by where the next line feed is found.
use borrow.Author.Rules.{rules}
use Rattle.text.proofs.Finding.{next-end, next-ended, next_unended}
use Rattle.text.proofs.next_line.Goals as goal

pub returns-then-s-at : goal.returns-then-s-at
returns-then-s-at c = search (next-end, rules)

pub returns-then-e-s : goal.returns-then-e-s
returns-then-e-s c = search (next-ended, rules)

pub returns : goal.returns
returns c = search (next_unended, rules)
