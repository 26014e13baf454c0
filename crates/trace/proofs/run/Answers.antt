-- `trace::run`: with room and without.
use borrow.Author.Rules.{rules}
use Rattle.trace.proofs.Firsts.{prints_nothing, printed-fits, prints_in, short-room, enough-room}
use Rattle.trace.proofs.run.Goals as goal

pub returns-then-out-script : goal.returns-then-out-script
returns-then-out-script c = search (prints_nothing, short-room, rules)

pub run_in-requires : goal.run_in-requires
run_in-requires c = search (printed-fits, enough-room, rules)

pub returns : goal.returns
returns c = search (prints_in, enough-room, rules)
