-- `script::tasks_at`: the tasks are the last field, or their clocks stand behind.
use borrow.Author.Rules.{rules}
use Rattle.script.proofs.FirstLine.{tasks_none, tasks-last}
use Rattle.script.proofs.tasks_at.Goals as goal

pub returns-in_err-tasks : goal.returns-in_err-tasks
returns-in_err-tasks c = search (tasks_none, rules)

pub returns-in-Last : goal.returns-in-Last
returns-in-Last c =
    let p = rw c.in-Last.is at c.in_ok-tasks.ensures in
    tasks-last c.args.fairness c.args.stock c.args.maker c.args.line.now c.args.at c.in-Last.tasks p
