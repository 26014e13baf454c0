-- By what the poll was decided to be.
use Rattle.resting.proofs.Rested.{polls_holding, polls_closed, polls_staying, polls_on}
use borrow.Author.Rules.{rules}
use Rattle.resting.proofs.poll.Goals as goal

pub returns-in-Holds : goal.returns-in-Holds
returns-in-Holds c = search (polls_holding, rules)

pub returns-in-IsClosed : goal.returns-in-IsClosed
returns-in-IsClosed c = search (polls_closed, rules)

pub returns-in-Stays : goal.returns-in-Stays
returns-in-Stays c = search (polls_staying, rules)

pub returns-in-QueuesBack : goal.returns-in-QueuesBack
returns-in-QueuesBack c = search (polls_on, rules)
