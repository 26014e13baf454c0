use Rattle.bundle.proofs.Rows.{name_here, names_all}
use borrow.Author.Rules.{rules}
use Rattle.bundle.proofs.reading.read_names.Goals as goal

pub loop-i-preserved : goal.loop-i-preserved
loop-i-preserved c = search (name_here, rules)

pub returns : goal.returns
returns c = search (names_all, rules)
