-- One answer for each kind of step.
use Rattle.times.proofs.Stepping.{rests_making, rests_trying, rests_unchanged}
use borrow.Author.Rules.{rules}
use Rattle.times.proofs.rest_times.Goals as goal

pub returns-in-Makes : goal.returns-in-Makes
returns-in-Makes c = search (rests_making, rules)

pub returns-in-Takes : goal.returns-in-Takes
returns-in-Takes c = search (rests_unchanged, rules)

pub returns-in-Tries : goal.returns-in-Tries
returns-in-Tries c = search (rests_trying, rules)
