-- `starting::start`: as many entries as the tasks have.
use borrow.Author.Rules.{rules}
use Rattle.starting.proofs.Makers.{entries-length, said_read}
use Rattle.starting.proofs.start.Goals as goal

pub slice_bounds-start_with-end : goal.slice_bounds-start_with-end
slice_bounds-start_with-end c = search (entries-length, rules)

pub returns : goal.returns
returns c = search (said_read, rules)
