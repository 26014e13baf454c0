-- `text::field`: from the place to the next space, or the end, stands the first part.
use borrow.Author.Rules.{rules}
use Rattle.text.proofs.Scanning.{found_part}
use Rattle.text.proofs.field.Goals as goal

pub returns : goal.returns
returns c = search (found_part, rules)
