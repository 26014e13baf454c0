-- By what the direct rule says.
use Rattle.resting.proofs.Rested.{tries_shut, tries_none, tries_on}
use borrow.Author.Rules.{rules}
use Rattle.resting.proofs.try_acquire.Goals as goal

pub returns-in-Shut : goal.returns-in-Shut
returns-in-Shut c = search (tries_shut, rules)

pub returns-in-NoPermits : goal.returns-in-NoPermits
returns-in-NoPermits c = search (tries_none, rules)

pub returns-in-Take : goal.returns-in-Take
returns-in-Take c = search (tries_on, rules)
