-- The task's own state.
use Rattle.words.proofs.Tasks.{read-finished}
use borrow.Author.Rules.{rules}
use Rattle.words.proofs.finished.Goals as goal

pub returns : goal.returns
returns c = search (read-finished, rules)
