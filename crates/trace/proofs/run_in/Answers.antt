-- `trace::run_in`: `long`, or what the script prints.
use borrow.Author.Rules.{rules}
use Rattle.trace.proofs.Firsts.{long-room, long_in, program-fits, short_in}
use Rattle.trace.proofs.run_in.Goals as goal

pub put-requires : goal.put-requires
put-requires c = search (long-room, rules)

pub returns-then-script-gt-LONGEST : goal.returns-then-script-gt-LONGEST
returns-then-script-gt-LONGEST c = search (long_in, rules)

pub run_whole-requires : goal.run_whole-requires
run_whole-requires c = search (program-fits, rules)

pub returns : goal.returns
returns c = search (short_in, rules)
