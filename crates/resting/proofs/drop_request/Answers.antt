-- By what the drop was decided to be.
use Rattle.resting.proofs.Rested.{drops_on, drops_nothing}
use borrow.Author.Rules.{rules}
use Rattle.resting.proofs.drop_request.Goals as goal

pub returns-in-Leaving : goal.returns-in-Leaving
returns-in-Leaving c = search (drops_on, rules)

pub returns-in-Nothing : goal.returns-in-Nothing
returns-in-Nothing c = search (drops_nothing, rules)
