-- Past the tasks none; else its two words.
use Rattle.words.proofs.Tasks.{read_past, read-there}
use borrow.Author.Rules.{rules}
use Rattle.words.proofs.task_at.Goals as goal

pub returns-then-count-t : goal.returns-then-count-t
returns-then-count-t c = search (read_past, rules)

pub returns : goal.returns
returns c = search (read-there, rules)
