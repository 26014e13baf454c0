-- The words of the task, where it has some.
use borrow.Author.Rules.{rules}
use Rattle.state.proofs.Viewing.{task-read}
use Rattle.state.proofs.BatchSemaphore.task.Goals as goal

pub returns : goal.returns
returns c = search (task-read, rules)
