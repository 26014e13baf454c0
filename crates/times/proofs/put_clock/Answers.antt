-- Past the last clock nothing is written.
use borrow.Author.Rules.{rules}
use Rattle.times.proofs.Clocks.{put_past, put_in}
use Rattle.times.proofs.put_clock.Goals as goal

pub returns-then-n-i : goal.returns-then-n-i
returns-then-n-i c = search (put_past, rules)

pub returns : goal.returns
returns c = search (put_in, rules)
