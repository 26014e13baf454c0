-- `reading::read_counted`: none more, too few kept, or a whole that is too long.
use Rattle.bundle.proofs.Judging.{enough-long}
use Rattle.bundle.proofs.Answering.{counted_none, counted-few, counted_all}
use borrow.Author.Rules.{rules}
use Rattle.bundle.proofs.reading.read_counted.Goals as goal

pub returns-then-more-eq0 : goal.returns-then-more-eq0
returns-then-more-eq0 c = search (counted_none, rules)

pub returns-then-kept-lt-LONGEST : goal.returns-then-kept-lt-LONGEST
returns-then-kept-lt-LONGEST c = search (counted-few, rules)

pub read_kept-requires : goal.read_kept-requires
read_kept-requires c = search (enough-long, rules)

pub returns : goal.returns
returns c = search (counted_all, rules)
