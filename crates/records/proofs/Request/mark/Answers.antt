-- By which marking it is.
use Rattle.records.proofs.Standing.{by_marking}
use borrow.Author.Rules.{rules}
use Rattle.records.proofs.Request.mark.Goals as goal

pub returns-in-Joins : goal.returns-in-Joins
returns-in-Joins c = search (by_marking, rules)

pub returns-in-Leaves : goal.returns-in-Leaves
returns-in-Leaves c = search (by_marking, rules)

pub returns-in-IsGranted : goal.returns-in-IsGranted
returns-in-IsGranted c = search (by_marking, rules)

pub returns-in-PollsGranted : goal.returns-in-PollsGranted
returns-in-PollsGranted c = search (by_marking, rules)

pub returns-in-PollsClosed : goal.returns-in-PollsClosed
returns-in-PollsClosed c = search (by_marking, rules)

pub returns-in-PollsPending : goal.returns-in-PollsPending
returns-in-PollsPending c = search (by_marking, rules)
