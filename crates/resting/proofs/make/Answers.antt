-- The request stands in its slot, and nothing else is changed.
use Rattle.resting.proofs.Rested.{made_so}
use borrow.Author.Rules.{rules}
use Rattle.resting.proofs.make.Goals as goal

pub returns : goal.returns
returns c = search (made_so, rules)
