-- Read, joined, set.
use borrow.Author.Rules.{rules}
use Rattle.times.proofs.Clocks.{set-joined}
use Rattle.times.proofs.join_task.Goals as goal

pub returns : goal.returns
returns c = search (set-joined, rules)
