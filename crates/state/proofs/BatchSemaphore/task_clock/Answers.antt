-- Past the last task, the empty clock.
use borrow.Author.Rules.{rules}
use Rattle.state.proofs.Viewing.{clock_past, clock-read}
use Rattle.state.proofs.BatchSemaphore.task_clock.Goals as goal

pub returns-then-self-t : goal.returns-then-self-t
returns-then-self-t c = search (clock_past, rules)

pub returns : goal.returns
returns c = search (clock-read, rules)
