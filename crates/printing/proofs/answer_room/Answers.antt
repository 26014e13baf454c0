-- `printing::answer_room`: a word, or a letter and a byte's number.
use borrow.Author.Rules.{rules}
use Rattle.printing.proofs.Rooms.{word_fits, made-fits, refused-fits}
use Rattle.printing.proofs.answer_room.Goals as goal

pub returns-in-Done : goal.returns-in-Done
returns-in-Done c = search (word_fits, rules)

pub returns-in-Granted : goal.returns-in-Granted
returns-in-Granted c = search (word_fits, rules)

pub returns-in-Pending : goal.returns-in-Pending
returns-in-Pending c = search (word_fits, rules)

pub returns-in-Closed : goal.returns-in-Closed
returns-in-Closed c = search (word_fits, rules)

pub returns-in-NoPermits : goal.returns-in-NoPermits
returns-in-NoPermits c = search (word_fits, rules)

pub returns-in-Made : goal.returns-in-Made
returns-in-Made c = search (made-fits, rules)

pub returns-in-Refused : goal.returns-in-Refused
returns-in-Refused c = search (refused-fits, rules)
