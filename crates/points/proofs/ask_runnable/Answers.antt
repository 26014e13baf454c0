-- By the question.
use Rattle.splitting.specs.Asking.{point, point_grounds}
use Rattle.points.proofs.Asking.{of_question}
use borrow.Author.Rules.{rules}
use Rattle.points.proofs.ask_runnable.Goals as goal

pub returns-in-BeforeTry : goal.returns-in-BeforeTry
unfolding point point_grounds
returns-in-BeforeTry c = search (of_question, rules)

pub returns-in-BeforeTryUpgrade : goal.returns-in-BeforeTryUpgrade
returns-in-BeforeTryUpgrade c = search (of_question, c.ask_try_upgrade.ensures, rules)

pub returns-in-BeforePoll : goal.returns-in-BeforePoll
returns-in-BeforePoll c = search (of_question, c.ask_poll.ensures, rules)

pub returns-in-BeforeDrop : goal.returns-in-BeforeDrop
returns-in-BeforeDrop c = search (of_question, c.ask_drop.ensures, rules)

pub returns-in-BeforeDropAgain : goal.returns-in-BeforeDropAgain
returns-in-BeforeDropAgain c = search (of_question, c.ask_drop_again.ensures, rules)
