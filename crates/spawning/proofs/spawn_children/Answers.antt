use borrow.Author.Rules.{rules}
use Rattle.spawning.proofs.Spawns.{nobody_yet, all_spawned}
use Rattle.spawning.proofs.spawn_children.Goals as goal

pub loop-k-init : goal.loop-k-init
loop-k-init c = search (nobody_yet, rules)

pub returns : goal.returns
returns c = search (all_spawned, rules)
