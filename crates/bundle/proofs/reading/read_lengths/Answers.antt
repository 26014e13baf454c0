use Rattle.bundle.proofs.Rows.{size_here, sizes_all}
use borrow.Author.Rules.{rules}
use Rattle.bundle.proofs.reading.read_lengths.Goals as goal

pub loop-i-preserved : goal.loop-i-preserved
loop-i-preserved c = search (size_here, rules)

pub returns : goal.returns
returns c = search (sizes_all, rules)
