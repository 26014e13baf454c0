-- `starting::start_spawned`: the words that the spawn leaves.
use borrow.Author.Rules.{rules}
use Rattle.spawning.proofs.Spawns.{spawned-sized}
use Rattle.starting.proofs.Makers.{said-spawned}
use Rattle.starting.proofs.start_spawned.Goals as goal

pub slice_bounds-start-end : goal.slice_bounds-start-end
slice_bounds-start-end c = search (spawned-sized, rules)

pub start-requires : goal.start-requires
start-requires c = search (spawned-sized, rules)

pub returns : goal.returns
returns c = search (said-spawned, rules)
