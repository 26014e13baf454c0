-- `reading::read_line`: a line that is found, and not ended.
use borrow.Author.Rules.{rules}
use Rattle.reading.proofs.Steps.{says_unended}
use Rattle.reading.proofs.read_line.Goals as goal

pub returns-in-Unended : goal.returns-in-Unended
returns-in-Unended c = search (says_unended, rules)
