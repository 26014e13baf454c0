-- One answer for each decision.
use Rattle.doing.proofs.Released.{stands_so, leaves, unreserves, gives_back_lem, rests}
use borrow.Author.Rules.{rules}
use Rattle.doing.proofs.drop_work.Goals as goal

pub returns-in-Leaving : goal.returns-in-Leaving
returns-in-Leaving c = search (leaves, rules)

pub returns-in-Unreserving : goal.returns-in-Unreserving
returns-in-Unreserving c = search (unreserves, rules)

pub returns-in-Returning : goal.returns-in-Returning
returns-in-Returning c = search (gives_back_lem, rules)

pub returns-in-Nothing : goal.returns-in-Nothing
returns-in-Nothing c = search (rests, stands_so, rules)
