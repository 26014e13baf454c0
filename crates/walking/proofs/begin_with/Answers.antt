-- `walking::begin_with`: 12, or a fresh state.
use borrow.Author.Rules.{rules}
use Rattle.walking.proofs.Firsts.{start-refused, start-accepted}
use Rattle.walking.proofs.begin_with.Goals as goal

pub returns-in-Err : goal.returns-in-Err
returns-in-Err c = search (start-refused, rules)

pub returns-in-Ok : goal.returns-in-Ok
returns-in-Ok c = search (start-accepted, rules)
