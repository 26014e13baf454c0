-- `spawning::spawn`: as many rows as there are tasks.
use borrow.Author.Rules.{rules}
use Rattle.spawning.proofs.Spawns.{spawned-rows, none_spawned}
use Rattle.spawning.proofs.spawn.Goals as goal

pub returns-then-tasks-le16 : goal.returns-then-tasks-le16
returns-then-tasks-le16 c = search (spawned-rows, rules)

pub returns-else-tasks-le16 : goal.returns-else-tasks-le16
returns-else-tasks-le16 c = search (none_spawned, rules)
