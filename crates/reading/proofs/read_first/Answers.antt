-- `reading::read_first`: the first line, where there is one.
use borrow.Author.Rules.{rules}
use Rattle.reading.proofs.Starts.{first_ended, first_unended, first-none}
use Rattle.reading.proofs.read_first.Goals as goal

pub returns-in-Ended : goal.returns-in-Ended
returns-in-Ended c = search (first_ended, rules)

pub returns-in-Unended : goal.returns-in-Unended
returns-in-Unended c = search (first_unended, rules)

pub returns-in-End : goal.returns-in-End
returns-in-End c = search (first-none, rules)
