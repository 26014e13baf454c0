-- Past the last clock nothing stands.
use borrow.Author.Rules.{rules}
use Rattle.times.proofs.Clocks.{read_past, read_in}
use Rattle.times.proofs.clock_in.Goals as goal

pub returns-then-n-i : goal.returns-then-n-i
returns-then-n-i c = search (read_past, rules)

pub returns : goal.returns
returns c = search (read_in, rules)
