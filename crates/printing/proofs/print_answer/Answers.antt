-- `printing::print_answer`: a word, or a letter and a number.
use borrow.Author.Rules.{rules}
use Rattle.printing.proofs.Chain.{room_word, word_written, room-made, room-slot, made_written, room-refused, room-refusal, refused_written}
use Rattle.printing.proofs.print_answer.Goals as goal

pub put-requires : goal.put-requires
put-requires c = search (room_word, rules)

pub put-requires-in-Granted : goal.put-requires-in-Granted
put-requires-in-Granted c = search (room_word, rules)

pub put-requires-in-Pending : goal.put-requires-in-Pending
put-requires-in-Pending c = search (room_word, rules)

pub put-requires-in-Closed : goal.put-requires-in-Closed
put-requires-in-Closed c = search (room_word, rules)

pub put-requires-in-NoPermits : goal.put-requires-in-NoPermits
put-requires-in-NoPermits c = search (room_word, rules)

pub put-p-requires : goal.put-p-requires
put-p-requires c = search (room-made, rules)

pub print_small-requires : goal.print_small-requires
print_small-requires c = search (room-slot, rules)

pub put-p-requires-in-Refused : goal.put-p-requires-in-Refused
put-p-requires-in-Refused c = search (room-refused, rules)

pub print_small-requires-in-Refused : goal.print_small-requires-in-Refused
print_small-requires-in-Refused c = search (room-refusal, rules)

pub returns-in-Done : goal.returns-in-Done
returns-in-Done c = search (word_written, rules)

pub returns-in-Granted : goal.returns-in-Granted
returns-in-Granted c = search (word_written, rules)

pub returns-in-Pending : goal.returns-in-Pending
returns-in-Pending c = search (word_written, rules)

pub returns-in-Closed : goal.returns-in-Closed
returns-in-Closed c = search (word_written, rules)

pub returns-in-NoPermits : goal.returns-in-NoPermits
returns-in-NoPermits c = search (word_written, rules)

pub returns-in-Made : goal.returns-in-Made
returns-in-Made c = search (made_written, rules)

pub returns-in-Refused : goal.returns-in-Refused
returns-in-Refused c = search (refused_written, rules)
