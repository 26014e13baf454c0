-- `numbers::number_at`: its four bytes.
use Rattle.bundle.proofs.FourBytes.{number_here}
use borrow.Author.Rules.{rules}
use Rattle.bundle.proofs.numbers.number_at.Goals as goal

pub returns : goal.returns
returns c = search (number_here, rules)
